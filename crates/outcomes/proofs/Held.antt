-- Of each direction at most two emitted wires are untaken, and a link holds some of those.
use Rattle.std.proofs.Common.{◌≡◌, ℕ, ◌+◌, ◌≤◌, ◌<◌, Bool, List, ◌++◌, length, ap, ◌∙◌, arith}
use Rattle.std.proofs.lemmas.List.{length-append, length-map}
use Rattle.interference.specs.Net.{Net, IsNetwork, IsVertex, degree_of}
use Rattle.node_api.specs.Program.{Program}
use Rattle.wires.specs.StampedWires.{wires_of}
use Rattle.wires.specs.declared.wire.Wire.{Wire}
use Rattle.alpha_core.specs.View.{port_at}
use Rattle.alpha_laws.specs.Simulates.{taken_over}
use Rattle.alpha_laws.proofs.Across.{over}
use Rattle.outcomes.specs.Outcome.{Outcome, IsOutcome, held_on, link_in, node_in, put_by, taken_by}
use Rattle.outcomes.proofs.Whole.{split_wires}

pub at_most_two : {S M E : Type 0} (program : Program S M E) (net : Net) → IsNetwork net → (capacity : ℕ) (transcript : Bool)
    (outcome : Outcome S M) → IsOutcome program net capacity transcript outcome
    → (v i : ℕ) → IsVertex net v → i < degree_of net v → length (link_in outcome v i).held ≤ 2
at_most_two {S} {M} program net ok capacity transcript outcome is v i vertex lt =
    let link = link_in outcome v i in
    let out : List (Wire M) = (port_at (node_in program net outcome v).view i).out in
    let here : length (taken_over net (taken_by net outcome) v i) ≡ length (wires_of link.taken) =
    ap (λ (ws : List (Wire M)). length ws) (over net ok (λ w j. wires_of (link_in outcome w j).taken) v i vertex lt) in
    let few : length (put_by outcome v i ++ out) ≤ length (taken_over net (taken_by net outcome) v i) + 2 =
    is.simulates.at_most_two_untaken v i vertex lt in
    let parts : length (put_by outcome v i) ≡ length (wires_of link.taken) + length (held_on outcome v i) =
    ap (λ (ws : List (Wire M)). length ws) (split_wires _ _ _ (is.splits v i vertex lt))
    ∙ length-append (wires_of link.taken) (held_on outcome v i) in
    omega (arith, here, few, parts, length-append (put_by outcome v i) out, length-map link.held (λ x. x.wire))
