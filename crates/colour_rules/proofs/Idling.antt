-- A node whose turn it isn't, and that hears nothing, does nothing.
use Rattle.std.proofs.Common.{◌≡◌, ◌≢◌, ℕ, zero, suc, ◌+◌, ◌-◌, ◌*◌, ◌<◌, ◌≤◌, ◌==◌, Bool, true, false, List, [], ◌∷◌, length, refl, ap, subst, sym, ◌∙◌, arith}
use Rattle.std.specs.Prelude.{Option, None, Ok, slice_index, if◌then◌else◌}
use Rattle.node_api.specs.Program.{span}
use Rattle.colour_rules.specs.declared.idle.IdlePulses.{IdlePulses}
use Rattle.colour_rules.specs.Idle.{IsIdle, IsWaiting}
use Rattle.std.proofs.lemmas.Bool.Decides.{nat_tests}
use Rattle.std.proofs.Math.Nat.{mul-le-mul_right}
use native.Mathlib.Decide.{dec_lt}
use Prim.{yes, no}
use Rattle.node_api.specs.Boxes.{nothing}
use Rattle.forests.specs.declared.numbering.Role.{Role}
use Rattle.colour_rules.specs.declared.payload.Payload.{Payload}
use Rattle.colour_rules.specs.declared.phase.Phase.TheVariants.{Merge}
use Rattle.colour_rules.specs.declared.phase.TheConstants.{FIRST_MERGE}
use Rattle.colour_rules.specs.Node.{IsPhase, Node, phase_of, ports, steps}
use Rattle.colour_rules.specs.Choice.{chooses, with_heard, with_chosen, with_taken}
use Rattle.colour_rules.specs.Refusals.{first_refusal, ports_refusal, refusal}
use Rattle.colour_rules.specs.Program.{answered, work_of, next}
use Rattle.colour_rules.proofs.Pairs.{pair_test, phase_merge}
use Rattle.colour_rules.proofs.Phases.{merge-pulse, phase-real}
use Rattle.colour_rules.proofs.Steps.{waits-is}

-- it is a node's turn at one step of a forest alone
pub no-turn : (node : Node) (f s : ℕ) → node.colour_before ≤ span node.sizes →
    slice_index node.colours f * (span node.sizes + 1) + node.colour_before ≢ s → chooses node f s ≡ false
no-turn node f s low other =
    pair_test (slice_index node.colours f) node.colour_before (span node.sizes + 1) s (omega arith)
    ∙ (let e : (slice_index node.colours f * (span node.sizes + 1) + node.colour_before == s) ≡ false = grind (arith, nat_tests) in e)

-- once its turn is over, a node has none up to the end of the forest
pub no-turn-after : (node : Node) (f step s : ℕ) → node.colour_before ≤ span node.sizes →
    (slice_index node.colours f ≤ 2 → slice_index node.colours f * (span node.sizes + 1) + node.colour_before ≤ step) → step < s → s < steps node.sizes →
    chooses node f s ≡ false
no-turn-after node f step s low over later below =
    no-turn node f s low (λ here.
    elim (dec_lt 2 (slice_index node.colours f)) [
      | yes many ↦
          let products : 3 * (span node.sizes + 1) ≤ slice_index node.colours f * (span node.sizes + 1) =
          mul-le-mul_right (span node.sizes + 1) (omega arith) in
          omega (arith, products)
      | no few ↦ omega (arith, over (omega arith))
    ])

none_refused : (node : Node) (f s port : ℕ) (earlier : List ℕ) (roles : List Role) →
    ports_refusal node (Merge f s) port earlier roles (nothing (length roles)) ≡ None
none_refused node f s port earlier [] = refl
none_refused node f s port earlier (role ∷ roles) = none_refused node f s (suc port) earlier roles

nothing_chosen : (node : Node) (n : ℕ) → with_chosen node.chosen (nothing n) ≡ node.chosen
nothing_chosen node zero = refl
nothing_chosen node (suc n) = nothing_chosen node n

-- nothing gathered, after the first step of a forest
gathers_nothing : (node : Node) (s : ℕ) → (s == 0) ≡ false → node ≡ with_heard node s (nothing (ports node))
gathers_nothing node s later = rw (later, nothing_chosen node (ports node)) refl

module _ (node : Node) (p f s : ℕ) (phase : phase_of node.sizes p ≡ Merge f s) (later : (s == 0) ≡ false) (wait : chooses node f s ≡ false) where
  abbrev silence : List (Option Payload)
  silence = nothing (ports node)

  waits : chooses (with_heard node s silence) f s ≡ false
  waits = ap (λ (n : Node). chooses n f s) (sym (gathers_nothing node s later)) ∙ wait

  -- so it stays as it is
  pub rests : next node p (nothing (ports node)) ≡ Ok (node, nothing (ports node))
  rests =
      let fine : refusal node (Merge f s) silence ≡ None = rw (none_refused node f s 0 [] node.roles, waits) refl in
      rw phase
      (ap (λ r. answered r (work_of node (Merge f s) silence)) fine
      ∙ ap Ok (sym (waits-is node f s silence silence node (gathers_nothing node s later) (sym waits) refl)))

-- The pulses after one of the merging are waited through, up to the node's next turn or the end of the forest.
pub waits-until : (node : Node) (pulse f s end : ℕ) → Merge f s ≡ phase_of node.sizes pulse → end ≤ steps node.sizes →
    ((t : ℕ) → s < t → t < end → chooses node f t ≡ false) → (p : ℕ) → pulse < p → p < pulse + (end - s) →
    (t : ℕ) × (0 < t) × (phase_of node.sizes p ≡ Merge f t) × (chooses node f t ≡ false)
waits-until node pulse f s end is within idle p low high =
    let bounds : IsPhase node.sizes (Merge f s) = subst (IsPhase node.sizes) (sym is) (phase-real node.sizes pulse) in
    let here : pulse ≡ FIRST_MERGE + (f * steps node.sizes + s) = merge-pulse node.sizes pulse f s is in
    let t : ℕ = p - pulse + s in
    let there : p ≡ FIRST_MERGE + (f * steps node.sizes + t) = omega arith in
    let before : t < end = omega arith in
    let phase : phase_of node.sizes p ≡ Merge f t = ap (phase_of node.sizes) there ∙ phase_merge node.sizes f t bounds.0 (omega arith) in
    (t, omega arith, phase, idle t (omega arith) before)

is_later : (s : ℕ) → 0 < s → (s == 0) ≡ false
is_later s some = grind (arith, nat_tests)

-- so they are idle
pub idle-waiting : (node : Node) (idle : IdlePulses) → IsWaiting node idle → IsIdle node idle
idle-waiting node idle waiting p low high =
    let w = waiting.steps p low high in
    rests node p idle.forest w.0 w.2 (is_later w.0 w.1) w.3

-- a node that has taken in colours waits as before
pub waits-on : (node : Node) (idle : IdlePulses) (slots : List (Option Payload)) (b : Bool) → IsWaiting node idle →
    IsWaiting (if b then with_taken node slots else node) idle
waits-on node idle slots true waiting = record { steps = waiting.steps }
waits-on node idle slots false waiting = waiting

-- a pulse of these that refuses nothing takes in what came
pub hears : (node : Node) (idle : IdlePulses) (p : ℕ) (slots : List (Option Payload)) → IsWaiting node idle → idle.from ≤ p → p < idle.to →
    ((s : ℕ) → 0 < s → first_refusal node (Merge idle.forest s) slots ≡ None) →
    next node p slots ≡ Ok (with_taken node slots, nothing (ports node))
hears node idle p slots waiting low high fine =
    let w = waiting.steps p low high in
    let f : ℕ = idle.forest in
    let s : ℕ = w.0 in
    let later : (s == 0) ≡ false = is_later s w.1 in
    let here : Node = with_taken node slots in
    let gathers : here ≡ with_heard node s slots = rw later refl in
    let wait : chooses (with_heard node s slots) f s ≡ false = ap (λ (n : Node). chooses n f s) (sym gathers) ∙ w.3 in
    let none : refusal node (Merge f s) slots ≡ None = rw (fine s w.1, wait) refl in
    rw w.2
    (ap (λ r. answered r (work_of node (Merge f s) slots)) none
    ∙ ap Ok (sym (waits-is node f s slots (nothing (ports node)) here gathers (sym wait) refl)))
