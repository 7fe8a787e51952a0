-- The text of the synchronous run of a program.
use Rattle.std.specs.Prelude.{ℕ, ◌+◌, List, ◌++◌, codes, flat_map}
use Rattle.std.specs.List.{range_with_len}
use Rattle.interference.specs.Net.{Net, vertices}
use Rattle.node_api.specs.Program.{Program, last_pulse_on}
use Rattle.node_api.specs.Run.{outbox_at, state_at}
use Rattle.program_texts.specs.Texts.{ProgramTexts}
use Rattle.number_rows.specs.Row.{numbered}
use Rattle.program_texts.specs.PayloadTexts.{PayloadTexts}
use Rattle.play_runs.specs.PutsText.{puts_text}

-- `pulse P`, and the program's words for it
abbrev pub pulse_line : {S : Type 0} → ProgramTexts S → Net → ℕ → List ℕ
pulse_line texts net p = numbered (codes "pulse ") p ++ texts.phase net p ++ codes "\n"

module _ {S M E : Type 0} (program : Program S M E) (texts : ProgramTexts S) (payloads : PayloadTexts M) where
  -- the lines of v at a pulse: what the program says of its node after the pulse, and what it sends there
  abbrev pub vertex_text : Net → ℕ → ℕ → List ℕ
  vertex_text net p v =
      texts.lines net p v (state_at program net p v)
      ++ puts_text payloads net p v (outbox_at program net p v)

  -- a pulse: its line, and the lines of each vertex
  abbrev pub pulse_text : Net → ℕ → List ℕ
  pulse_text net p = pulse_line texts net p ++ flat_map (vertex_text net p) (vertices net)

  -- the synchronous run on a network: the program's first line, and the pulses 0 to the last
  abbrev pub rounds_text : Net → List ℕ
  rounds_text net = texts.head net ++ flat_map (pulse_text net) (range_with_len 0 (last_pulse_on program net + 1))
