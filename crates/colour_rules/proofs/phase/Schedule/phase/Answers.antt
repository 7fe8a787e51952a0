use Rattle.std.proofs.Common.{subst, sym}
use Rattle.colour_rules.specs.Node.{IsPhase}
use Rattle.colour_rules.proofs.Phases.{phase-real}
use Rattle.colour_rules.proofs.phase.Schedule.phase.Goals as goal

pub returns-in_default-clause-real : goal.returns-in_default-clause-real
returns-in_default-clause-real c =
    subst (IsPhase c.args.self.now) (sym c.merge_phase.ensures) (phase-real c.args.self.now c.args.pulse)
