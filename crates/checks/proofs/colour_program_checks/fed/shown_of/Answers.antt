use Rattle.std.proofs.Common.{◌≡◌, ℕ, ap, subst}
use Rattle.std.specs.Prelude.{List, Option, Result, Ok, Err, IfOk, MatchResult, OnErr, length}
use Rattle.node_api.specs.declared.program.Refused.{Refused}
use Rattle.colour_rules.specs.declared.payload.Payload.{Payload}
use Rattle.colour_rules.specs.Node.{Node, ports}
use Rattle.colour_rules.proofs.KeptPorts.{keeps}
use Rattle.checks.proofs.colour_program_checks.fed.shown_of.Goals as goal

abbrev Keeps : ℕ → Node × List (Option Payload) → Type 0
Keeps n node = (ports node.0 ≡ n) × (length node.1 ≡ n)

-- an answer leaves a node its ports
ports-kept : {A : Type 0} (old new : Node) (out before : List (Option Payload)) (given : Result (Node × List (Option Payload)) Refused) (r : Result A Refused) →
    IfOk given (Keeps (ports old)) → MatchResult r (λ _. given ≡ Ok (new, out)) (λ refused. given ≡ Err refused) →
    OnErr r ((new ≡ old) × (out ≡ before)) → ports new ≡ ports old
ports-kept old new out before given (Ok x) shape answer same = (subst (λ t. IfOk t (Keeps (ports old))) answer shape).0
ports-kept old new out before given (Err refused) shape answer same = ap ports same.0

pub returns : goal.returns
returns c =
    let answer = c.handle_messages-answer in
    record {
      ports = ports-kept c.args.node.now answer.new.self answer.new.out _ _ answer.result
          (keeps.next_shape c.args.node.now c.args.pulse _ c.requires.inbox) answer.ensures.answer answer.ensures.refused;
    }
