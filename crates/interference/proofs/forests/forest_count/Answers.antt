use Rattle.std.proofs.Common.{[], ◌≡◌, ◌+◌, max, ◌∙◌, arith}
use Rattle.std.proofs.lemmas.Bool.Decides.{nat_tests}
use Rattle.interference.specs.Net.{higher_count, greatest_from}
use Rattle.interference.specs.Rows.{net_from}
use Rattle.interference.proofs.MostForests.{row_few, row_vertices, count_here, forests-more}
use Rattle.interference.proofs.forests.forest_count.Goals as goal

pub higher_count-requires-clause-vertices : goal.higher_count-requires-clause-vertices
higher_count-requires-clause-vertices c =
    row_vertices c.args.ids.now c.args.starts.now c.args.ports.now c.requires.0 c.requires.1 c.requires.2 c.loop-i.i (omega arith)

pub higher_count-requires-clause-few : goal.higher_count-requires-clause-few
higher_count-requires-clause-few c = row_few c.args.ids.now c.args.starts.now c.args.ports.now c.requires.0 c.requires.1 c.requires.2 c.loop-i.i (omega arith)

pub loop-i-preserved : goal.loop-i-preserved
loop-i-preserved c =
    let f = higher_count (net_from c.args.ids.now c.args.starts.now c.args.ports.now [] [] 0) in
    let own : c.higher_count.result ≡ f (c.loop-i.i + 1) =
    c.higher_count.ensures ∙ count_here c.args.ids.now c.args.starts.now c.args.ports.now c.requires.0 c.requires.1 c.requires.2 c.loop-i.i (omega arith) in
    let more : greatest_from f 1 (c.loop-i.i + 1) ≡ max (greatest_from f 1 c.loop-i.i) (f (c.loop-i.i + 1)) =
    forests-more c.args.ids.now c.args.starts.now c.args.ports.now c.requires.0 c.requires.1 c.requires.2 c.loop-i.i (omega arith) in
    let best : c.max-most.result ≡ max c.loop-i.most c.higher_count.result = grind (arith, nat_tests) in
    omega arith
