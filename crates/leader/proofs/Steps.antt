-- Steps of the election: what a node sends at a pulse.
use Rattle.std.proofs.Common.{◌≡◌, ℕ, ◌<◌, ◌≤◌, arith, replicate}
use Rattle.std.specs.Prelude.{Some}
use Rattle.std.proofs.lemmas.Bool.Decides.{nat_tests}
use Rattle.node_api.specs.Boxes.{nothing}
use Rattle.leader.specs.Elector.{Elector}
use Rattle.leader.specs.Election.{sends, sends_new}

-- before the last pulse it sends at all ports
pub sends-early : (p : ℕ) (s : Elector) → p < s.last → sends p s ≡ replicate s.degree (Some (record { 0 = s.best }))
sends-early p s early = grind (arith, nat_tests)

-- after pulse 0 it does so only if it heard a greater identifier
pub sends-new : (p known : ℕ) (s : Elector) → known < s.best → sends_new p known s ≡ sends p s
sends-new p known s new = grind (arith, nat_tests)

pub sends-none : (p known : ℕ) (s : Elector) → s.best ≤ known → sends_new p known s ≡ nothing s.degree
sends-none p known s old = grind (arith, nat_tests)
