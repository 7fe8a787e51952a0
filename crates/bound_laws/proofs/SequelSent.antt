-- What a sequel of the colouring sends over an edge up to the cut is what the colouring sends.
use Rattle.std.proofs.Common.{◌≡◌, ℕ, zero, suc, ◌+◌, ◌-◌, ◌*◌, ◌<◌, ◌≤◌, length, refl, ap, ◌∙◌, arith}
use Rattle.std.specs.Prelude.{Option, Some, None}
use Rattle.interference.specs.Net.{IsEdge, IsNetwork, Net, forest_count_of}
use Rattle.node_api.specs.Program.{sizes_of}
use Rattle.forests.specs.Forests.{number}
use Rattle.interference.proofs.Neighbours.{both-ways, neighbour-is_vertex}
use Rattle.link_rule.specs.Sent.{sends}
use Rattle.wires.specs.Streams.{sent_pulse}
use Rattle.colour_rules.specs.declared.payload.Payload.{Payload}
use Rattle.colour_rules.specs.Node.{Node, steps}
use Rattle.colour_rules.specs.Program.{colouring}
use Rattle.followed.specs.declared.said.Said.{Said}
use Rattle.followed.specs.Said.{said}
use Rattle.followed.specs.Followed.{IsCut, Sequel, followed}
use Rattle.bound_laws.specs.Composition.{cut_on}
use Rattle.bound_laws.proofs.Composed.{first_sends}
use Rattle.bound_laws.proofs.ColouringSent.{both-early}
use Rattle.bound_laws.proofs.Sent.{next, sent_below}

-- what is said of a payload is a payload
said-length : {A : Type 0} (B : Type 0) (n : ℕ) (x : Option A) → length (sent_pulse {M = Said A B} n (said x)) ≡ length (sent_pulse n x)
said-length B n None = refl
said-length B n (Some x) = refl

same-sent : {A B : Type 0} (g : ℕ → Option A) (h : ℕ → Option (Said A B)) (n : ℕ) → ((p : ℕ) → p < n → h p ≡ said (g p)) → sent_below h n ≡ sent_below g n
same-sent g h zero same = refl
same-sent {A = A} {B = B} g h (suc n) same =
    let before : sent_below h n ≡ sent_below g n = same-sent g h n (λ p below. same p (omega (arith, below))) in
    let here : length (sent_pulse n (h n)) ≡ length (sent_pulse n (g n)) =
    ap (λ (x : Option (Said A B)). length (sent_pulse n x)) (same n (omega arith)) ∙ said-length B n (g n) in
    omega (arith, next h n, next g n, before, here)

module _ {X B : Type 0} (sequel : Sequel Node X Payload B) (laws : IsCut colouring sequel) (net : Net) (ok : IsNetwork net) where
  -- both ends of an edge, if the cut is before the merging of forest f
  pub both-before : (f v w : ℕ) → f ≤ forest_count_of net → cut_on laws net ≡ 12 + f * steps (sizes_of net) → IsEdge net v w →
      sent_below (sends (followed colouring sequel) net v w) (suc (cut_on laws net))
      + sent_below (sends (followed colouring sequel) net w v) (suc (cut_on laws net)) ≤ 13 + 2 * f
  both-before f v w h cut edge =
      let n : ℕ = 13 + f * steps (sizes_of net) in
      let e : suc (cut_on laws net) ≡ n = omega (arith, cut) in
      let back : IsEdge net w v = (neighbour-is_vertex net ok v w edge.0 edge.1, both-ways net ok v w edge.0 edge.1) in
      let out : sent_below (sends (followed colouring sequel) net v w) (suc (cut_on laws net)) ≡ sent_below (sends colouring net v w) (suc (cut_on laws net)) =
      same-sent (sends colouring net v w) (sends (followed colouring sequel) net v w) (suc (cut_on laws net))
      (λ p below. first_sends colouring sequel laws net ok p v w edge.0 (omega (arith, below))) in
      let in_ : sent_below (sends (followed colouring sequel) net w v) (suc (cut_on laws net)) ≡ sent_below (sends colouring net w v) (suc (cut_on laws net)) =
      same-sent (sends colouring net w v) (sends (followed colouring sequel) net w v) (suc (cut_on laws net))
      (λ p below. first_sends colouring sequel laws net ok p w v back.0 (omega (arith, below))) in
      let all : sent_below (sends colouring net v w) n + sent_below (sends colouring net w v) n ≤ 13 + 2 * (f - number net v w) =
      both-early net ok f v w h edge in
      let a : sent_below (sends colouring net v w) (suc (cut_on laws net)) ≡ sent_below (sends colouring net v w) n =
      ap (sent_below (sends colouring net v w)) e in
      let b : sent_below (sends colouring net w v) (suc (cut_on laws net)) ≡ sent_below (sends colouring net w v) n =
      ap (sent_below (sends colouring net w v)) e in
      omega (arith, out, in_, all, a, b)
