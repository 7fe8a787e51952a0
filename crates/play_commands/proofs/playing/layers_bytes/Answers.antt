use Rattle.std.proofs.Common.{Err, Ok}
use Rattle.std.proofs.lemmas.Result.{IfErr-weaker, IfOk-weaker}
use Rattle.play_commands.proofs.Rooted.{layers-play}
use Rattle.play_commands.proofs.playing.layers_bytes.Goals as goal

pub returns-clause-ok : goal.returns-clause-ok
returns-clause-ok c =
    IfOk-weaker c.play_bytes.result _ _
    (λ bytes may. layers-play c.args.vertex c.rounds_end_with_the_distances_from_a_root.ensures.layers c.args.play c.args.input.now (Ok bytes.items) may)
    c.play_bytes.ensures.ok

pub returns-clause-fault : goal.returns-clause-fault
returns-clause-fault c =
    IfErr-weaker c.play_bytes.result _ _
    (λ fault may. layers-play c.args.vertex c.rounds_end_with_the_distances_from_a_root.ensures.layers c.args.play c.args.input.now (Err fault) may)
    c.play_bytes.ensures.fault
