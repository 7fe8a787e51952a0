use Rattle.std.proofs.Common.{Err, Ok}
use Rattle.std.proofs.lemmas.Result.{IfErr-weaker, IfOk-weaker}
use Rattle.command_line.specs.declared.play_request.Play.TheVariants.{Run}
use Rattle.play_commands.proofs.Rooted.{layers-play}
use Rattle.play_commands.proofs.running.layers_run_bytes.Goals as goal

pub returns-clause-ok : goal.returns-clause-ok
returns-clause-ok g c =
    IfOk-weaker c.shown_run_bytes.result _ _
    (λ bytes may. layers-play c.args.vertex c.rounds_end_with_the_distances_from_a_root.ensures.layers
    (Run c.args.options c.args.shown) c.args.input.now (Ok bytes.items) may)
    c.shown_run_bytes.ensures.ok

pub returns-clause-fault : goal.returns-clause-fault
returns-clause-fault g c =
    IfErr-weaker c.shown_run_bytes.result _ _
    (λ fault may. layers-play c.args.vertex c.rounds_end_with_the_distances_from_a_root.ensures.layers
    (Run c.args.options c.args.shown) c.args.input.now (Err fault) may)
    c.shown_run_bytes.ensures.fault
