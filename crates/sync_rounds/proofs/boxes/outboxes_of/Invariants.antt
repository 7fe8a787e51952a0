use Rattle.std.proofs.Common.{◌≡◌, ◌<◌, ℕ, List, length}
use Rattle.std.specs.Prelude.{Option, false, slice_index_or, true}
use Rattle.node_api.specs.Boxes.{nothing}
use Rattle.sync_rounds.proofs.boxes.outboxes_of.Given as goal

abbrev pub invariant-loop-degree : goal.invariant-loop-degree
invariant-loop-degree g l = record {
  size : length l.outs.items ≡ l.degree;
  empty : (k : ℕ) (d : List (Option g.row.T.Denot)) → k < l.degree → slice_index_or l.occurs.items k false ≡ true → slice_index_or l.outs.items k d ≡ nothing k;
}
