-- The fault of a transcript's text as one of a replay.
use Rattle.play_inputs.specs.declared.replays.ReplayFault.{ReplayFault}
use Rattle.play_inputs.specs.declared.replays.ReplayFault.TheVariants as fault
use Rattle.transcripts.specs.declared.fault.TextFault.{TextFault}
use Rattle.transcripts.specs.declared.fault.TextFault.TheVariants as text

-- the fault of a transcript's text
abbrev pub fault_of_text : TextFault → ReplayFault
fault_of_text (text.Syntax n) = fault.Syntax n
fault_of_text text.Memory = fault.Memory
