-- The answer that shows the rounds of a network.
use Rattle.std.specs.Prelude.{◌≡◌, ℕ, List}
use Rattle.interference.specs.Net.{IsNetwork}
use Rattle.node_api.specs.Program.{Program}
use Rattle.node_api.specs.Run.{last_state}
use Rattle.program_texts.specs.Texts.{ProgramTexts}
use Rattle.play_runs.specs.RoundsText.{rounds_text}
use Rattle.program_texts.specs.PayloadTexts.{PayloadTexts}
use Rattle.plan_answers.specs.Answers.{ReadsAs}
use Rattle.play_inputs.specs.Settings.{OfSet}
use Rattle.play_inputs.specs.declared.setting.Setting.{Setting}

-- the answer is the text of the synchronous run of a program on the network that the input describes, as it is set, and
-- the last states of this run are what the program is for
abbrev pub IsRoundsAnswer : {S M E : Type 0} → Program S M E → ProgramTexts S → PayloadTexts M → Setting → List ℕ
    → List ℕ → Type 0
IsRoundsAnswer program texts payloads setting input answer =
    ReadsAs input (OfSet setting (λ net. IsNetwork net × (answer ≡ rounds_text program texts payloads net)
    × texts.Solves net (last_state program net)))
