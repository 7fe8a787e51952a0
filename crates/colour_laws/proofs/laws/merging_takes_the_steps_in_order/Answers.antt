use Rattle.colour_laws.proofs.StepsInOrder.{phase-step, turn-is}
use Rattle.colour_laws.proofs.laws.merging_takes_the_steps_in_order.Goals as goal

pub returns-clause-phase : goal.returns-clause-phase
returns-clause-phase c = phase-step

pub returns-clause-turn : goal.returns-clause-turn
returns-clause-turn c = turn-is
