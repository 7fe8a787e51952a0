use Rattle.std.proofs.Common.{◌≡◌, map, take}
use Rattle.forests.specs.Forests.{role_by}
use Rattle.forests.proofs.numbering.number_with.Given as goal

abbrev pub invariant-loop-port : goal.invariant-loop-port
invariant-loop-port l = take l.port l.roles ≡ map (role_by l.own l.ids) (take l.port l.ids)
