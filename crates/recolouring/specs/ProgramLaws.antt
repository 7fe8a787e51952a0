-- The classes may choose anew after the colouring.
use Rattle.std.proofs.Common.{◌≡◌, ℕ, suc, ◌+◌, ◌-◌, ◌*◌, ◌/◌, ◌%◌, ◌≤◌, ◌&&◌, ◌==◌, Bool, true, false, List, length}
use Rattle.std.proofs.Common.{◌∙◌, ap, arith, refl, subst, sym}
use Rattle.std.proofs.lemmas.List.{length-replicate}
use Rattle.std.proofs.lemmas.Bool.{and_right, le-ltb}
use Rattle.std.proofs.lemmas.Nat.{div-mul-add, mod-mul-add}
use Rattle.std.proofs.Math.Nat.{suc-mul}
use Rattle.std.specs.Prelude.{if◌then◌else◌, nat_lt, Option, Some, None}
use Rattle.interference.specs.Net.{Net, IsNetwork, IsVertex, degree_of, span_of}
use Rattle.node_api.specs.Boxes.{nothing}
use Rattle.node_api.specs.Program.{Sizes, sizes_of}
use Rattle.node_api.specs.Run.{node_at, inbox_from, state_at}
use Rattle.node_api.proofs.Runs.{node_at-ports}
use Rattle.followed.specs.Followed.{Both, IsCut, IsSequel, beside_of}
use Rattle.followed.specs.RunLaws.{at-more, kept_beside}
use Rattle.colour_rules.proofs.KeptPorts.{keeps}
use Rattle.colour_rules.specs.Node.{Node, last, ports}
use Rattle.colour_rules.specs.Program.{colouring}
use Rattle.recolouring.specs.Knowing.{Recoloured, Wire, anew_next, class_next, colour_after, entering, has_bars}
use Rattle.recolouring.specs.Knowing.{is_turn, ready, recolouring, recolours, says, sweeps, told, with_anew}

length-told : (node : Node) (b : Bool) (c : ℕ) → length (told node b c) ≡ ports node
length-told node true c = length-replicate (ports node) (Some (says c))
length-told node false c = length-replicate (ports node) None

-- what the beginning of a pass leaves as it is
pub ready-as : {A : Type 0} (f : Recoloured → A) (b : Bool) (s t : Recoloured) → f t ≡ f s
    → f (if b then t else s) ≡ f s
ready-as f true s t e = e
ready-as f false s t e = refl

abbrev pub recolours_cut : IsCut colouring recolours
recolours_cut = record {
  cut = last;
  within = λ sizes again. omega arith;
  begins = λ own. refl;
  keeps = λ node s q inbox. ready-as (λ t. t.until) (q % (s.greatest + 1) == 0) s (entering node s q) refl;
}

some-sweeps : (b : Bool) → 1 ≤ (if b then 2 else 1)
some-sweeps true = omega arith
some-sweeps false = omega arith

pub one-more : (k n : ℕ) → (k + 1) * n ≡ k * n + n
one-more k n = ap (λ (m : ℕ). m * n) (let e : k + 1 ≡ suc k = omega arith in e) ∙ suc-mul k n

sweep-end : (cut a b span : ℕ) → b ≡ a + (span + 1) → suc (cut + (a + span)) ≡ cut + b
sweep-end cut a b span e = omega (arith, e)

-- the pulse of a sweep, and the sweep of a pulse
pub class-of : (greatest k q : ℕ) → q ≤ greatest → (k * (greatest + 1) + q) % (greatest + 1) ≡ q
class-of greatest k q h = mod-mul-add k (greatest + 1) q (omega arith)

pub sweep-of : (greatest k q : ℕ) → q ≤ greatest → (k * (greatest + 1) + q) / (greatest + 1) ≡ k
sweep-of greatest k q h = div-mul-add k (greatest + 1) q (omega arith)

-- how many sweeps come before the last one
pub sweeps-more : (again : ℕ) (sizes : Sizes)
    → (n : ℕ) × ((again + 1) * sweeps sizes ≡ n + 1) × (n ≡ again * sweeps sizes + (sweeps sizes - 1))
sweeps-more again sizes =
    let more : (again + 1) * sweeps sizes ≡ again * sweeps sizes + sweeps sizes = one-more again (sweeps sizes) in
    let some : 1 ≤ sweeps sizes = some-sweeps (has_bars sizes) in
    (again * sweeps sizes + (sweeps sizes - 1), omega (arith, more, some), refl)

module _ (net : Net) (ok : IsNetwork net) where
  abbrev pub cut : ℕ
  cut = last (sizes_of net)

  abbrev pub coloured : ℕ → Node
  coloured v = state_at colouring net cut v

module _ (net : Net) (ok : IsNetwork net) where
  abbrev pub at : ℕ → ℕ → Both Node Recoloured × List (Option Wire)
  at p v = node_at recolouring net p v

  pub at-class : (p v : ℕ) → IsVertex net v → cut net ok ≤ p →
      at (suc p) v ≡ beside_of (coloured net ok v)
      (anew_next (coloured net ok v) (at p v).0.beside (p - cut net ok) (inbox_from net (at p) v))
  at-class p v is_vertex h = at-more colouring recolours recolours_cut net ok p v is_vertex h
      (anew_next (coloured net ok v) (at p v).0.beside (p - cut net ok) (inbox_from net (at p) v)) refl

  pub has_greatest : (p v : ℕ) → (at p v).0.beside.greatest ≡ span_of net
  has_greatest p v = kept_beside colouring recolours recolours_cut net ok (λ s. s.greatest)
      (λ node s q inbox. ready-as (λ t. t.greatest) (q % (s.greatest + 1) == 0) s (entering node s q) refl) p v

  pub has_barring : (p v : ℕ) → (at p v).0.beside.barring ≡ has_bars (sizes_of net)
  has_barring p v = kept_beside colouring recolours recolours_cut net ok (λ s. s.barring)
      (λ node s q inbox. ready-as (λ t. t.barring) (q % (s.greatest + 1) == 0) s (entering node s q) refl) p v

  -- pulse q of sweep k, from 0
  pub at-sweep : (k q v : ℕ) → IsVertex net v → q ≤ span_of net →
      at (suc (cut net ok + (k * (span_of net + 1) + q))) v ≡ beside_of (coloured net ok v)
      (class_next (coloured net ok v)
      (ready (coloured net ok v) (at (cut net ok + (k * (span_of net + 1) + q)) v).0.beside
      (k * (span_of net + 1) + q)) k q
      (inbox_from net (at (cut net ok + (k * (span_of net + 1) + q))) v))
  at-sweep k q v is_vertex h =
      let d : ℕ = k * (span_of net + 1) + q in
      let p : ℕ = cut net ok + d in
      let node : Node = coloured net ok v in
      let s : Recoloured = (at p v).0.beside in
      let class : d % (s.greatest + 1) ≡ q =
      ap (λ (n : ℕ). d % (n + 1)) (has_greatest p v) ∙ class-of (span_of net) k q h in
      let sweep : d / (s.greatest + 1) ≡ k =
      ap (λ (n : ℕ). d / (n + 1)) (has_greatest p v) ∙ sweep-of (span_of net) k q h in
      at-class p v is_vertex (omega arith)
      ∙ (ap (λ (n : ℕ). beside_of node (anew_next node s n (inbox_from net (at p) v)))
      (let e : p - cut net ok ≡ d = omega arith in e)
      ∙ (ap (λ (n : ℕ). beside_of node
      (class_next node (ready node s d) n (d % (s.greatest + 1)) (inbox_from net (at p) v))) sweep
      ∙ ap (λ (n : ℕ). beside_of node (class_next node (ready node s d) k n (inbox_from net (at p) v))) class))

  -- nothing is sent at the last pulse of a sweep
  pub silent_sweep : (k v : ℕ) → IsVertex net v
      → (at (cut net ok + (k + 1) * (span_of net + 1)) v).1 ≡ nothing (degree_of net v)
  silent_sweep k v is_vertex =
      let d : ℕ = k * (span_of net + 1) + span_of net in
      let p : ℕ = cut net ok + d in
      let node : Node = coloured net ok v in
      let first : Recoloured = (at p v).0.beside in
      let s : Recoloured = ready node first d in
      let turn : Bool = is_turn s k (span_of net) in
      let colour : ℕ = colour_after s k (with_anew s.chosen (inbox_from net (at p) v)) turn in
      let greatest : s.greatest ≡ span_of net =
      ready-as (λ t. t.greatest) (d % (first.greatest + 1) == 0) first (entering node first d) refl
      ∙ has_greatest p v in
      let late : nat_lt (span_of net) s.greatest ≡ false =
      le-ltb (span_of net) s.greatest (omega (arith, greatest)) in
      let last_one : suc p ≡ cut net ok + (k + 1) * (span_of net + 1) =
      sweep-end (cut net ok) (k * (span_of net + 1)) _ (span_of net) (one-more k (span_of net + 1)) in
      subst (λ (n : ℕ). (at n v).1 ≡ nothing (degree_of net v)) last_one
      (ap (λ (next : Both Node Recoloured × List (Option Wire)). next.1)
      (at-sweep k (span_of net) v is_vertex (omega arith))
      ∙ (ap (λ (b : Bool). told node b colour) (and_right turn (nat_lt (span_of net) s.greatest) late)
      ∙ ap (λ (n : ℕ). nothing n) (node_at-ports colouring net keeps (cut net ok) v).0))

pub recolours_laws : IsSequel colouring recolours
recolours_laws = record {
  cut = recolours_cut;
  shape = λ node s q inbox h.
      let r : Recoloured = ready node s q in
      let sweep : ℕ = q / (s.greatest + 1) in
      let class : ℕ = q % (s.greatest + 1) in
      let turn : Bool = is_turn r sweep class in
      length-told node (turn && nat_lt class r.greatest) (colour_after r sweep (with_anew r.chosen inbox) turn);
  accepts = λ net ok p v is_vertex late below. refl;
  silent = λ net ok v is_vertex.
      let more = sweeps-more net.again (sizes_of net) in
      subst (λ (n : ℕ). (at net ok (cut net ok + n * (span_of net + 1)) v).1 ≡ nothing (degree_of net v))
      (sym more.1) (silent_sweep net ok more.0 v is_vertex);
}
