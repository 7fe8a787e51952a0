-- The line and the status that report each fault of `forestplay`.
use Rattle.std.specs.Prelude.{ℕ, List, ◌++◌, codes}
use Rattle.reports.specs.Lines.{at_line, at_vertex, line_with}
use Rattle.plan_answers.specs.Faults.{col_text, net_text, pool_text}
use Rattle.event_texts.specs.declared.fault.EventFault.{EventFault}
use Rattle.event_texts.specs.declared.fault.EventFault.TheVariants as event
use Rattle.play_inputs.specs.declared.replays.ReplayFault.{ReplayFault}
use Rattle.play_inputs.specs.declared.replays.ReplayFault.TheVariants as replay
use Rattle.play_inputs.specs.declared.fault.PlayFault.{PlayFault}
use Rattle.play_inputs.specs.declared.fault.PlayFault.TheVariants.{Col, Event, Net, NoRoot, Memory, Pool, Replay}
use Rattle.play_inputs.specs.declared.fault.PlayFault.TheVariants.{Stopped}

-- the text of a fault of events, and the status of the program
abbrev pub event_text : EventFault → List ℕ × ℕ
event_text (event.NoEvent n) = (at_line (codes "NoEvent") n, 1)
event_text (event.NotReady n words) = (at_line (codes "NotReady") n ++ words.items, 1)
event_text (event.NothingToPut n words) = (at_line (codes "NothingToPut") n ++ words.items, 1)
event_text (event.LinkEmpty n words) = (at_line (codes "LinkEmpty") n ++ words.items, 1)
event_text (event.NoSuch n) = (at_line (codes "NoSuch") n, 1)
event_text event.Memory = (codes "memory", 4)

-- the same of a fault of a replay
abbrev pub replay_text : ReplayFault → List ℕ × ℕ
replay_text (replay.Syntax n) = (at_line (codes "X1") n, 1)
replay_text (replay.WrongProgram n words) = (at_line (codes "WrongProgram") n ++ words.items, 1)
replay_text (replay.NotReady n words) = (at_line (codes "NotReady") n ++ words.items, 1)
replay_text (replay.NothingToPut n words) = (at_line (codes "NothingToPut") n ++ words.items, 1)
replay_text (replay.LinkEmpty n words) = (at_line (codes "LinkEmpty") n ++ words.items, 1)
replay_text (replay.NoSuch n) = (at_line (codes "NoSuch") n, 1)
replay_text (replay.WrongWire n words) = (at_line (codes "WrongWire") n ++ words.items, 1)
replay_text (replay.WrongStamp n) = (at_line (codes "WrongStamp") n, 1)
replay_text (replay.NotWhole n) = (at_line (codes "NotWhole") n, 1)
replay_text replay.Memory = (codes "memory", 4)

-- the text of a fault, and the status of the program
abbrev pub fault_text : PlayFault → List ℕ × ℕ
fault_text (Col fault) = col_text fault
fault_text (NoRoot v) = (at_vertex (codes "NoRoot") v, 1)
fault_text (Net fault) = net_text fault
fault_text (Pool fault) = pool_text fault
fault_text (Event fault) = event_text fault
fault_text (Replay fault) = replay_text fault
fault_text Stopped = (codes "stopped", 3)
fault_text Memory = (codes "memory", 4)

-- the line with which a program of a name reports a fault
abbrev pub fault_line : List ℕ → PlayFault → List ℕ
fault_line name fault = line_with name (fault_text fault).0

abbrev pub fault_status : PlayFault → ℕ
fault_status fault = (fault_text fault).1
