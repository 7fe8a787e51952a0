use Rattle.std.proofs.Common.{sym, subst, ◌∙◌, arith}
use Rattle.colour_rules.specs.Node.{IsPhase}
use Rattle.colour_rules.proofs.Phases.{phase-real}
use Rattle.colour_rules.proofs.Idling.{waits-until}
use Rattle.colour_rules.proofs.node.ColourNode.idle_after.Goals as goal

pub next_due-end-requires-clause-forest : goal.next_due-end-requires-clause-forest
next_due-end-requires-clause-forest c =
    (subst (IsPhase c.args.self.now.sizes) (sym c.requires ∙ c.in-Merge.is) (phase-real c.args.self.now.sizes c.args.pulse)).0

pub next_due-end-requires-clause-step : goal.next_due-end-requires-clause-step
next_due-end-requires-clause-step c =
    (subst (IsPhase c.args.self.now.sizes) (sym c.requires ∙ c.in-Merge.is) (phase-real c.args.self.now.sizes c.args.pulse)).1

pub returns-in-Merge : goal.returns-in-Merge
returns-in-Merge c =
    record {
      steps = λ p low high.
          waits-until c.args.self.now c.args.pulse c.in-Merge.forest c.in-Merge.step c.next_due-end.result (sym c.in-Merge.is ∙
          c.requires) c.next_due-end.ensures.within c.next_due-end.ensures.idle p (omega arith) (omega arith);
    }
