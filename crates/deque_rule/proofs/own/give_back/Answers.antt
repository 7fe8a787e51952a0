use Rattle.deque_rule.proofs.Rule.{gives}
use Rattle.deque_rule.proofs.own.give_back.Goals as goal

pub push_as-requires-clause-pushes : goal.push_as-requires-clause-pushes
push_as-requires-clause-pushes g c = gives (λ b. g.T.Task.number_of b.value) _ _ _ c.requires.some
