use Rattle.std.proofs.Common.{Some, ap, sym, subst, ◌∙◌}
use Rattle.link_queue.specs.Queued.{stamped_of}
use Rattle.link_queue.specs.Rule.{Linked}
use Rattle.link_queue.proofs.Mapped.{mapped_forks}
use Rattle.link_queue.proofs.Rules.{begins, names, forks, legal_none}
use Rattle.link_rule.specs.Legal.{IsLegalOn, LegalFor}
use Rattle.wires.specs.StampedWires.{wires_of}
use Rattle.link_queue.proofs.link.named.Goals as goal

pub ruled-requires-clause-rule : goal.ruled-requires-clause-rule
ruled-requires-clause-rule g c = begins (IsLegalOn g.P.NodeProgram.program)

pub another-spent-requires-clause-rule : goal.another-spent-requires-clause-rule
another-spent-requires-clause-rule g c =
    let program = g.P.NodeProgram.program in
    let e = c.in_ok-queue.ensures.3 in
    mapped_forks stamped_of (Linked (IsLegalOn program)) _ _ _ _
    (names (IsLegalOn program) _ _ (Some g.J.Naming.name) (ap (λ v. v.puts) e) (ap (λ v. v.takes) e)
    (subst (λ l. LegalFor (IsLegalOn program) (Some g.J.Naming.name) (wires_of l)) (sym (ap (λ v. v.put) e)) (legal_none program (Some g.J.Naming.name))))

pub another-other-requires-clause-rule : goal.another-other-requires-clause-rule
another-other-requires-clause-rule g c =
    let program = g.P.NodeProgram.program in
    let e = c.in_ok-queue.ensures.3 in
    let f = c.another-spent.ensures.rule.0 in
    mapped_forks stamped_of (Linked (IsLegalOn program)) _ _ _ _
    (forks (IsLegalOn program) _ _ _ (ap (λ v. v.puts) f ∙ ap (λ v. v.puts) e) (ap (λ v. v.takes) f ∙ ap (λ v. v.takes) e)
    (λ n is. subst (λ l. IsLegalOn program n (wires_of l)) (sym (ap (λ v. v.put) f ∙ ap (λ v. v.put) e)) (legal_none program _ n is)))
