use Rattle.std.proofs.Common.{◌≡◌, length}
use Rattle.checks.proofs.colour_program_checks.fed.inbox_of.Given as goal

abbrev pub invariant-loop-port : goal.invariant-loop-port
invariant-loop-port l = record {
  slots : length l.inbox.slots ≡ length l.payloads;
  cursor : l.inbox.cursor ≡ 0;
}
