use Rattle.std.proofs.Common.{Some, sym, refl, arith}
use Rattle.std.proofs.lemmas.List.{take_all}
use Rattle.std.proofs.lemmas.List.Elements.{All-more, All-same}
use Rattle.graph_limits.specs.Pairs.{FitsIn}
use Rattle.interference.proofs.edges.all_fit.Goals as goal

pub loop-edge-preserved : goal.loop-edge-preserved
loop-edge-preserved c =
    All-more (FitsIn (Some c.args.nodes)) c.args.edges.now c.loop-edge.edge-index (0, 0) (omega arith) c.loop-edge.invariant
    (omega arith, omega arith, omega arith)

pub returns : goal.returns
returns c = (
  (λ _. All-same (FitsIn (Some c.args.nodes)) c.args.edges.now _ (sym (take_all c.loop-edge.edge-index c.args.edges.now (omega arith))) c.loop-edge.invariant),
  (λ _. refl),
)
