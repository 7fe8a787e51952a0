use Rattle.std.proofs.Common.{◌∙◌, None, ap, replicate, rules}
use Rattle.channel_plan.proofs.Tables.{table-none}
use Rattle.channel_plan.proofs.checking.table_of.Goals as goal

pub put_rows-requires : goal.put_rows-requires
put_rows-requires c = record {
  empty = table-none c.args.net.now c.deref_mut.result.now (c.deref_mut.ensures.value ∙
      c.in_ok-table.ensures.items_if_clones_equal (search rules) ∙ ap (λ n. replicate n None) c.nodes.ensures.count);
}
