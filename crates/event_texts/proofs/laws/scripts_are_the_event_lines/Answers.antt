use Rattle.event_texts.proofs.Scripts.{scripts}
use Rattle.event_texts.proofs.laws.scripts_are_the_event_lines.Goals as goal

pub returns : goal.returns
returns c = record { law = λ lines script. scripts lines script }
