use Rattle.std.proofs.Common.{◌≡◌, ◌+◌, length}
use Rattle.interference.specs.Net.{greatest_degree_of}
use Rattle.sync_rounds.specs.Rests.{HasDegrees}
use Rattle.sync_rounds.proofs.boxes.degrees_of.Given as goal

abbrev pub invariant-loop-i : goal.invariant-loop-i
invariant-loop-i l = record {
  size : length l.occurs.items ≡ greatest_degree_of l.net + 1;
  occurs : HasDegrees l.net l.i l.occurs.items;
}
