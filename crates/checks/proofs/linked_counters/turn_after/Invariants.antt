use Rattle.std.proofs.Common.{[], ◌∷◌, false}
use Rattle.checks.proofs.linked_counters.turn_after.Given as goal

abbrev pub ghosts-turned_over : goal.ghosts-turned_over
ghosts-turned_over g a = record {
  net = a.network.now;
  tables = (a.ends.take.pass.table_id ∷ []) ∷ (a.ends.put.pass.table_id ∷ []) ∷ [];
  links = a.ends.take.pass.table_id ∷ a.ends.put.pass.table_id ∷ [];
  transcript = false;
}
