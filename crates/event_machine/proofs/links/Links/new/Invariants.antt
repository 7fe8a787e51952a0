use Rattle.std.proofs.Common.{◌≡◌, map, replicate}
use Rattle.std.specs.List.{range_with_len}
use Rattle.interference.specs.Net.{degree_of}
use Rattle.event_rule.specs.State.{no_link}
use Rattle.event_machine.proofs.links.Links.new.Given as goal

abbrev pub invariant-loop-i : goal.invariant-loop-i
invariant-loop-i g l = map (λ row. row.items) l.rows.items ≡ map (λ v. replicate (degree_of l.net v) no_link) (range_with_len 1 l.i)
