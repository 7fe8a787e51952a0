use Rattle.std.proofs.Common.{sym, subst}
use Rattle.std.specs.Prelude.{Contains, IsTrue, ◌↔◌}
use Rattle.crossbeam_queue.specs.Passes.{view}
use Rattle.wires.specs.declared.wire.Wire.TheVariants.{Close}
use Rattle.wires.specs.StampedWires.{wires_of}
use Rattle.link_queue.proofs.Rules.{has_close-finds}
use Rattle.link_queue.proofs.ends.PutSide.is_closed.Goals as goal

pub returns : goal.returns
returns g c =
    let end = c.args.self.now in
    subst (λ b. IsTrue b ↔ Contains (wires_of (view end.pass).put) Close) (sym end.puts.2) (has_close-finds (wires_of (view end.pass).put))
