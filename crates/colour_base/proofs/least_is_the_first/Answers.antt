use Rattle.colour_base.proofs.least_is_the_first.Goals as goal
use Rattle.colour_base.proofs.LeastLemmas.{least-within, least-holds, least-first}

pub returns-clause-within : goal.returns-clause-within
returns-clause-within c = least-within

pub returns-clause-passes : goal.returns-clause-passes
returns-clause-passes c = least-holds

pub returns-clause-first : goal.returns-clause-first
returns-clause-first c = least-first
