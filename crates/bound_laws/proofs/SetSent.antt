-- After the colouring a node of the independent set sends once at most, at the pulse of its colour, and of two
-- neighbours one does.
use Rattle.std.proofs.Common.{◌≡◌, ◌≢◌, ℕ, zero, suc, ◌+◌, ◌-◌, ◌*◌, ◌≤◌, ◌==◌, ◌&&◌, Bool, true, false, List, ap, sym, ◌∙◌, arith, subst, inl, inr}
use Rattle.std.specs.Prelude.{◌||◌, nat_lt, not, Option, None}
use Rattle.std.proofs.lemmas.Bool.{and_left, cases_Bool, ne_eqb, or_left, or_right}
use Rattle.std.proofs.lemmas.Bool.Decides.{nat_tests}
use native.Mathlib.Decide.{dec_lt}
use Prim.{yes, no}
use Rattle.interference.specs.Net.{IsEdge, IsNetwork, IsVertex, Net, forest_count_of, port_to, span_of}
use Rattle.interference.proofs.Neighbours.{both-ways, neighbour-is_vertex}
use Rattle.node_api.specs.Boxes.{at_port}
use Rattle.node_api.specs.Program.{last_pulse_on}
use Rattle.node_api.specs.Run.{inbox_from, last_state}
use Rattle.node_api.proofs.Slots.{at_port-nothing}
use Rattle.link_rule.specs.Sent.{sends}
use Rattle.colour_rules.specs.Node.{Node, ports}
use Rattle.followed.specs.Followed.{Both}
use Rattle.independent_set.specs.Knowing.{Member, Wire, came, classes, independent_set, joins, told}
use Rattle.independent_set.specs.ProgramLaws.{at, at-class, classes_cut, coloured, cut}
use Rattle.bound_laws.proofs.Sent.{no-less, once, over, quiet, sent_below}
use Rattle.bound_laws.proofs.SequelSent.{both-before}

-- what a node that doesn't tell it that it joins sends
told-none : (node : Node) (b : Bool) (k : ℕ) → b ≡ false → at_port (told node b) k ≡ None
told-none node b k e = ap (λ (c : Bool). at_port (told node c) k) e ∙ at_port-nothing (ports node) k

module _ (net : Net) (ok : IsNetwork net) where
  -- whether a node joins at pulse q after the colouring
  abbrev joining : ℕ → ℕ → Bool
  joining q v = joins (coloured net ok v).merged q
      ((at net ok (cut net ok + q) v).0.beside.is_beside || came (inbox_from net (at net ok (cut net ok + q)) v))

  class-at : (q v : ℕ) → IsVertex net v → at net ok (suc (cut net ok) + q) v
      ≡ (
        record {
          first = coloured net ok v;
          beside = record (at net ok (cut net ok + q) v).0.beside {
            is_in = (at net ok (cut net ok + q) v).0.beside.is_in || joining q v;
            is_beside = (at net ok (cut net ok + q) v).0.beside.is_beside || came (inbox_from net (at net ok (cut net ok + q)) v);
          };
        },
        told (coloured net ok v) (joining q v && nat_lt q (at net ok (cut net ok + q) v).0.beside.greatest),
      )
  class-at q v is_vertex =
      let p : ℕ = cut net ok + q in
      let s : Member = (at net ok p v).0.beside in
      let heard : Bool = s.is_beside || came (inbox_from net (at net ok p) v) in
      let e : p - cut net ok ≡ q = omega arith in
      ap (λ (n : ℕ). at net ok n v) (let same : suc (cut net ok) + q ≡ suc p = omega arith in same)
      ∙ (at-class net ok p v is_vertex (omega arith)
      ∙ ap (λ (n : ℕ). (
        record {
          first = coloured net ok v;
          beside = record s {
            is_in = s.is_in || joins (coloured net ok v).merged n heard;
            is_beside = heard;
          };
        },
        told (coloured net ok v) (joins (coloured net ok v).merged n heard && nat_lt n s.greatest),
      )) e)

  slot-none : (q v w : ℕ) → IsVertex net v → joining q v ≡ false → sends independent_set net v w (suc (cut net ok) + q) ≡ None
  slot-none q v w is_vertex idle =
      ap (λ (node : Both Node Member × List (Option Wire)). at_port node.1 (port_to net v w)) (class-at q v is_vertex)
      ∙ told-none (coloured net ok v) (joining q v && nat_lt q (at net ok (cut net ok + q) v).0.beside.greatest) (port_to net v w)
      (and_left (joining q v) (nat_lt q (at net ok (cut net ok + q) v).0.beside.greatest) idle)

  other-class : (q v : ℕ) → q ≢ (coloured net ok v).merged → joining q v ≡ false
  other-class q v other = and_left ((coloured net ok v).merged == q) (not ((at net ok (cut net ok + q) v).0.beside.is_beside
      || came (inbox_from net (at net ok (cut net ok + q)) v))) (ne_eqb (coloured net ok v).merged q (λ e. other (sym e)))

  -- who is in stays in
  in-later : (n q v : ℕ) → IsVertex net v → q ≤ n → (at net ok (cut net ok + q) v).0.beside.is_in ≡ true
      → (at net ok (cut net ok + n) v).0.beside.is_in ≡ true
  in-later zero q v is_vertex low is = let e : q ≡ 0 = omega (arith, low) in subst (λ (m : ℕ). (at net ok (cut net ok + m) v).0.beside.is_in ≡ true) e is
  in-later (suc n) q v is_vertex low is = elim (dec_lt n q) [
    | yes here ↦ let e : q ≡ suc n = omega (arith, low, here) in subst (λ (m : ℕ). (at net ok (cut net ok + m) v).0.beside.is_in ≡ true) e is
    | no later ↦
        let e : cut net ok + suc n ≡ suc (cut net ok) + n = omega arith in
        ap (λ (m : ℕ). (at net ok m v).0.beside.is_in) e
        ∙ (ap (λ (node : Both Node Member × List (Option Wire)). node.0.beside.is_in) (class-at n v is_vertex)
        ∙ or_left (at net ok (cut net ok + n) v).0.beside.is_in (joining n v) (in-later n q v is_vertex (omega (arith, later)) is))
  ]

  -- who joins is in at the end
  in-at-last : (q v : ℕ) → IsVertex net v → q ≤ span_of net → joining q v ≡ true → (last_state independent_set net v).beside.is_in ≡ true
  in-at-last q v is_vertex low joining_now =
      let e : last_pulse_on independent_set net ≡ cut net ok + suc (span_of net) = omega arith in
      let now : (at net ok (cut net ok + suc q) v).0.beside.is_in ≡ true =
      ap (λ (m : ℕ). (at net ok m v).0.beside.is_in) (let same : cut net ok + suc q ≡ suc (cut net ok) + q = omega arith in same)
      ∙ (ap (λ (node : Both Node Member × List (Option Wire)). node.0.beside.is_in) (class-at q v is_vertex)
      ∙ or_right (at net ok (cut net ok + q) v).0.beside.is_in (joining q v) joining_now) in
      ap (λ (m : ℕ). (at net ok m v).0.beside.is_in) e
      ∙ in-later (suc (span_of net)) (suc q) v is_vertex (omega (arith, low)) now

  -- how often a node has sent when the colouring is over
  abbrev coloured_with : ℕ → ℕ → ℕ
  coloured_with v w = sent_below (sends independent_set net v w) (suc (cut net ok))

  once-after : (v w : ℕ) → IsVertex net v → over independent_set net ok v w ≤ coloured_with v w + 1
  once-after v w is_vertex =
      let g : ℕ → Option Wire = sends independent_set net v w in
      let end : ℕ = suc (cut net ok) + suc (span_of net) in
      let one : sent_below g end ≤ sent_below g (suc (cut net ok)) + 1 = once g (suc (cut net ok)) (suc (span_of net)) (coloured net ok v).merged
      (λ q below other. slot-none q v w is_vertex (other-class q v other)) in
      let low : last_pulse_on independent_set net ≤ end = omega arith in
      omega (arith, one, no-less g (last_pulse_on independent_set net) end low)

  quiet-after : (v w : ℕ) → IsVertex net v → joining (coloured net ok v).merged v ≡ false → over independent_set net ok v w ≤ coloured_with v w
  quiet-after v w is_vertex idle =
      let g : ℕ → Option Wire = sends independent_set net v w in
      let end : ℕ = suc (cut net ok) + suc (span_of net) in
      let none : sent_below g end ≡ sent_below g (suc (cut net ok)) = quiet g (suc (cut net ok)) (suc (span_of net))
      (λ q below. slot-none q v w is_vertex (idle-at q)) in
      let low : last_pulse_on independent_set net ≤ end = omega arith in
      omega (arith, none, no-less g (last_pulse_on independent_set net) end low)
    where
      idle-at : (q : ℕ) → joining q v ≡ false
      idle-at q = elim (cases_Bool ((coloured net ok v).merged == q)) [
        | inl same ↦ let e : (coloured net ok v).merged ≡ q = (let t : ((coloured net ok v).merged == q) ≡ true = same in grind (arith, nat_tests)) in
            subst (λ (n : ℕ). joining n v ≡ false) e idle
        | inr other ↦ and_left ((coloured net ok v).merged == q) (not ((at net ok (cut net ok + q) v).0.beside.is_beside
            || came (inbox_from net (at net ok (cut net ok + q)) v))) other
      ]

  pub set-over : ((v w : ℕ) → IsEdge net v w → (last_state independent_set net v).beside.is_in ≡ true
      → (last_state independent_set net w).beside.is_in ≡ true → ⊥) → ((v : ℕ) → IsVertex net v → (coloured net ok v).merged ≤ span_of net)
      → (v w : ℕ) → IsEdge net v w → over independent_set net ok v w + over independent_set net ok w v ≤ 14 + 2 * forest_count_of net
  set-over independent within v w edge =
      let back : IsEdge net w v = (neighbour-is_vertex net ok v w edge.0 edge.1, both-ways net ok v w edge.0 edge.1) in
      let early : coloured_with v w + coloured_with w v ≤ 13 + 2 * forest_count_of net =
      both-before classes classes_cut net ok (forest_count_of net) v w (omega arith) (omega arith) edge in
      elim (cases_Bool (joining (coloured net ok v).merged v)) [
        | inr idle ↦ omega (arith, early, quiet-after v w edge.0 idle, once-after w v back.0)
        | inl one ↦ elim (cases_Bool (joining (coloured net ok w).merged w)) [
          | inr idle ↦ omega (arith, early, once-after v w edge.0, quiet-after w v back.0 idle)
          | inl both ↦ absurd (independent v w edge (in-at-last (coloured net ok v).merged v edge.0 (within v edge.0) one)
              (in-at-last (coloured net ok w).merged w back.0 (within w back.0) both))
        ]
      ]
