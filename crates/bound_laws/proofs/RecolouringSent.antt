-- After the colouring a node of the recolouring sends once a sweep at most: at the pulse of the colour that it came with.
use Rattle.std.proofs.Common.{◌≡◌, ◌≢◌, ℕ, zero, suc, ◌+◌, ◌-◌, ◌*◌, ◌%◌, ◌≤◌, ◌==◌, ◌&&◌, Bool, false, List, refl, ap, sym, ◌∙◌, arith, subst}
use Rattle.std.specs.Prelude.{if◌then◌else◌, nat_lt, Option, None}
use Rattle.std.specs.FinSet.{FinSet}
use Rattle.std.specs.Ordering.{nat_cmp}
use Rattle.std.proofs.lemmas.Bool.{and_left, ne_eqb}
use Rattle.interference.specs.Net.{IsEdge, IsNetwork, IsVertex, Net, forest_count_of, port_to, span_of}
use Rattle.interference.proofs.Neighbours.{both-ways, neighbour-is_vertex}
use Rattle.node_api.specs.Boxes.{at_port}
use Rattle.node_api.specs.Program.{last_pulse_on, sizes_of}
use Rattle.node_api.specs.Run.{inbox_from}
use Rattle.node_api.proofs.Slots.{at_port-nothing}
use Rattle.link_rule.specs.Sent.{sends}
use Rattle.colour_rules.specs.Node.{Node, ports}
use Rattle.followed.specs.Followed.{Both}
use Rattle.recolouring.specs.Knowing.{Recoloured, Wire, colour_after, entering, has_bars, is_turn, place, ready, recolouring, recolours, sweeps}
use Rattle.recolouring.specs.Knowing.{told, with_anew}
use Rattle.recolouring.specs.ProgramLaws.{at, at-sweep, class-of, coloured, cut, has_barring, has_greatest, ready-as, recolours_cut}
use Rattle.bound_laws.proofs.Sent.{no-less, once, over, sent_below}
use Rattle.bound_laws.proofs.SequelSent.{both-before}

told-none : (node : Node) (b : Bool) (c k : ℕ) → b ≡ false → at_port (told node b c) k ≡ None
told-none node b c k e = ap (λ (d : Bool). at_port (told node d c) k) e ∙ at_port-nothing (ports node) k

-- a node enters a sweep at its first pulse alone
stays-ready : (node : Node) (s : Recoloured) (k q : ℕ) → suc q ≤ s.greatest → ready node s (k * (s.greatest + 1) + suc q) ≡ s
stays-ready node s k q h =
    let class : (k * (s.greatest + 1) + suc q) % (s.greatest + 1) ≡ suc q = class-of s.greatest k (suc q) h in
    ap (λ (b : Bool). if b then entering node s (k * (s.greatest + 1) + suc q) else s)
    (ap (λ (n : ℕ). n == 0) class ∙ ne_eqb (suc q) 0 (λ e. omega (arith, e)))

module _ (net : Net) (ok : IsNetwork net) where
  abbrev pulse_of : ℕ → ℕ → ℕ
  pulse_of k q = k * (span_of net + 1) + q

  abbrev before_sweep : ℕ → ℕ → ℕ → Recoloured
  before_sweep k q v = (at net ok (cut net ok + pulse_of k q) v).0.beside

  -- a node at pulse q of sweep k, when it has entered the sweep
  abbrev in_sweep : ℕ → ℕ → ℕ → Recoloured
  in_sweep k q v = ready (coloured net ok v) (before_sweep k q v) (pulse_of k q)

  abbrev heard : ℕ → ℕ → ℕ → FinSet nat_cmp
  heard k q v = with_anew (in_sweep k q v).chosen (inbox_from net (at net ok (cut net ok + pulse_of k q)) v)

  knows : (k q v : ℕ) → (in_sweep k q v).greatest ≡ span_of net
  knows k q v =
      ready-as (λ t. t.greatest) (pulse_of k q % ((before_sweep k q v).greatest + 1) == 0) (before_sweep k q v)
      (entering (coloured net ok v) (before_sweep k q v) (pulse_of k q)) refl
      ∙ has_greatest net ok (cut net ok + pulse_of k q) v

  knows-bars : (k q v : ℕ) → (in_sweep k q v).barring ≡ has_bars (sizes_of net)
  knows-bars k q v =
      ready-as (λ t. t.barring) (pulse_of k q % ((before_sweep k q v).greatest + 1) == 0) (before_sweep k q v)
      (entering (coloured net ok v) (before_sweep k q v) (pulse_of k q)) refl
      ∙ has_barring net ok (cut net ok + pulse_of k q) v

  -- it comes with one colour into all pulses of a sweep
  one-colour : (k q v : ℕ) → IsVertex net v → q ≤ span_of net → (in_sweep k q v).before ≡ (in_sweep k 0 v).before
  one-colour k zero v is_vertex h = refl
  one-colour k (suc q) v is_vertex h =
      let s : Recoloured = before_sweep k (suc q) v in
      let greatest : s.greatest ≡ span_of net = has_greatest net ok (cut net ok + pulse_of k (suc q)) v in
      let same : ready (coloured net ok v) s (pulse_of k (suc q)) ≡ s =
      subst (λ (n : ℕ). ready (coloured net ok v) s (k * (n + 1) + suc q) ≡ s) greatest
      (stays-ready (coloured net ok v) s k q (omega (arith, greatest, h))) in
      let e : cut net ok + pulse_of k (suc q) ≡ suc (cut net ok + pulse_of k q) = omega arith in
      ap (λ (t : Recoloured). t.before) same
      ∙ (ap (λ (n : ℕ). (at net ok n v).0.beside.before) e
      ∙ (ap (λ (node : Both Node Recoloured × List (Option Wire)). node.0.beside.before) (at-sweep net ok k q v is_vertex (omega (arith, h)))
      ∙ one-colour k q v is_vertex (omega (arith, h))))

  -- the pulse of a node in a sweep
  abbrev place_of : ℕ → ℕ → ℕ
  place_of k v = place (has_bars (sizes_of net)) k (span_of net) (in_sweep k 0 v).before

  not-turn : (k q v : ℕ) → IsVertex net v → q ≤ span_of net → q ≢ place_of k v → is_turn (in_sweep k q v) k q ≡ false
  not-turn k q v is_vertex h other =
      let s : Recoloured = in_sweep k q v in
      let there : place s.barring k s.greatest s.before ≡ place_of k v =
      ap (λ (n : ℕ). place s.barring k s.greatest n) (one-colour k q v is_vertex h)
      ∙ (ap (λ (n : ℕ). place s.barring k n (in_sweep k 0 v).before) (knows k q v)
      ∙ ap (λ (b : Bool). place b k (span_of net) (in_sweep k 0 v).before) (knows-bars k q v)) in
      ne_eqb (place s.barring k s.greatest s.before) q (λ e. other (sym e ∙ there))

  slot-none : (k q v w : ℕ) → IsVertex net v → q ≤ span_of net → q ≢ place_of k v
      → sends recolouring net v w (suc (cut net ok) + k * (span_of net + 1) + q) ≡ None
  slot-none k q v w is_vertex h other =
      let s : Recoloured = in_sweep k q v in
      let turn : Bool = is_turn s k q in
      ap (λ (n : ℕ). at_port (at net ok n v).1 (port_to net v w))
      (let e : suc (cut net ok) + k * (span_of net + 1) + q ≡ suc (cut net ok + pulse_of k q) = omega arith in e)
      ∙ (ap (λ (node : Both Node Recoloured × List (Option Wire)). at_port node.1 (port_to net v w)) (at-sweep net ok k q v is_vertex h)
      ∙ told-none (coloured net ok v) (turn && nat_lt q s.greatest) (colour_after s k (heard k q v) turn) (port_to net v w)
      (and_left turn (nat_lt q s.greatest) (not-turn k q v is_vertex h other)))

  in_sweeps : (k v w : ℕ) → IsVertex net v → sent_below (sends recolouring net v w) (suc (cut net ok) + k * (span_of net + 1))
      ≤ sent_below (sends recolouring net v w) (suc (cut net ok)) + k
  in_sweeps zero v w is_vertex = let e : suc (cut net ok) + zero * (span_of net + 1) ≡ suc (cut net ok) = omega arith in rw e (omega arith)
  in_sweeps (suc k) v w is_vertex =
      let g : ℕ → Option Wire = sends recolouring net v w in
      let size : ℕ = span_of net + 1 in
      let from : ℕ = suc (cut net ok) + k * size in
      let e : suc (cut net ok) + suc k * size ≡ from + size = omega arith in
      let one : sent_below g (from + size) ≤ sent_below g from + 1 = once g from size (place_of k v)
      (λ q below other. slot-none k q v w is_vertex (omega (arith, below)) other) in
      subst (λ (n : ℕ). sent_below g n ≤ sent_below g (suc (cut net ok)) + suc k) (sym e) (omega (arith, one, in_sweeps k v w is_vertex))

  pub recolouring-over : (v w : ℕ) → IsEdge net v w
      → over recolouring net ok v w + over recolouring net ok w v ≤ 13 + 2 * forest_count_of net + 2 * ((net.again + 1) * sweeps (sizes_of net))
  recolouring-over v w edge =
      let back : IsEdge net w v = (neighbour-is_vertex net ok v w edge.0 edge.1, both-ways net ok v w edge.0 edge.1) in
      let end : ℕ = suc (cut net ok) + (net.again + 1) * sweeps (sizes_of net) * (span_of net + 1) in
      let low : last_pulse_on recolouring net ≤ end = omega arith in
      let early : sent_below (sends recolouring net v w) (suc (cut net ok)) + sent_below (sends recolouring net w v) (suc (cut net ok))
      ≤ 13 + 2 * forest_count_of net =
      both-before recolours recolours_cut net ok (forest_count_of net) v w (omega arith) (omega arith) edge in
      omega (
        arith,
        early,
        no-less (sends recolouring net v w) (last_pulse_on recolouring net) end low,
        no-less (sends recolouring net w v) (last_pulse_on recolouring net) end low,
        in_sweeps ((net.again + 1) * sweeps (sizes_of net)) v w edge.0,
        in_sweeps ((net.again + 1) * sweeps (sizes_of net)) w v back.0,
      )
