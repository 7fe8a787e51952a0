use Rattle.std.proofs.Common.{[], ◌∷◌, false}
use Rattle.checks.proofs.link_threads.hand_over.Given as goal

abbrev pub ghosts-over : goal.ghosts-over
ghosts-over g a = record {
  net = a.network.now;
  tables = (a.out.put.pass.table_id ∷ []) ∷ (a.back.put.pass.table_id ∷ []) ∷ [];
  links = a.out.put.pass.table_id ∷ a.back.put.pass.table_id ∷ [];
  transcript = false;
}
