use Rattle.std.proofs.Common.{◌∙◌, subst, sym}
use Rattle.play_answers.specs.ReplayAnswers.{SaysWhyNot, StopsThere}
use Rattle.play_answers.proofs.WholeRefusals.{stops-there}
use Rattle.play_answers.proofs.replaying.fault_of_stamped.Goals as goal

-- the entries without their stamps stop where those with them do
pub fault_of_entry-requires-clause-stops : goal.fault_of_entry-requires-clause-stops
fault_of_entry-requires-clause-stops g c κs within =
    let program = g.P.NodeProgram.program in
    let net = c.args.network.now in
    let refused = c.in-Replay.refused in
    subst (λ rows. StopsThere program net rows refused) (sym (c.as_slice.ensures.value ∙ c.in-Ok.ensures))
    (stops-there program net c.args.rows.now refused (subst (λ r. SaysWhyNot program net c.args.rows.now r) c.in-Replay.is c.requires.why))
