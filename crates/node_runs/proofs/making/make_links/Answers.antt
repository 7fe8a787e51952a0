use Rattle.std.proofs.Common.{◌≡◌, ◌+◌, subst, ◌∙◌, arith}
use Rattle.std.proofs.lemmas.List.{length-map}
use Rattle.interference.specs.Net.{count_of}
use Rattle.port_rows.specs.Rows.{rows_of}
use Rattle.node_runs.specs.Makes.{AreMadeBefore}
use Rattle.node_runs.proofs.Edges.{all-made, none-made}
use Rattle.node_runs.proofs.making.make_links.Goals as goal

pub loop-v-init : goal.loop-v-init
loop-v-init g c = record {
  made = none-made c.args.net.now c.args.capacity c.nodes-v-end.ensures.network _ _ c.in_ok-made.ensures.links
      (length-map c.in_ok-made.made.ends.items (λ row. row.items) ∙ c.in_ok-made.ensures.count) c.in_ok-made.ensures.rows;
}

pub returns : goal.returns
returns g c =
    let net = c.args.net.now in
    let last : c.loop-v.v + 1 ≡ count_of net + 1 = omega (arith, c.loop-v-test.false, c.loop-v.auto.v-end, c.nodes-v-end.ensures.count) in
    record {
      made = all-made net c.args.capacity c.nodes-v-end.ensures.network _ _
          (subst (λ v. AreMadeBefore net c.args.capacity v 0 c.loop-v.made.links.items (rows_of c.loop-v.made.ends.items)) last
          c.loop-v.invariant.made);
    }
