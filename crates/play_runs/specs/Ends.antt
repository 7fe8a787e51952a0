-- The text of the last states of a program's nodes.
use Rattle.std.specs.Prelude.{◌≡◌, ℕ, List, ◌++◌, codes, flat_map}
use Rattle.plan_answers.specs.Answers.{ReadsAs}
use Rattle.play_inputs.specs.Settings.{OfSet}
use Rattle.play_inputs.specs.declared.setting.Setting.{Setting}
use Rattle.alpha_core.specs.View.{Node}
use Rattle.outcomes.specs.Outcome.{Gathered}
use Rattle.program_texts.specs.Texts.{ProgramTexts}
use Rattle.interference.specs.Net.{Net, IsNetwork, vertices}
use Rattle.node_api.specs.Program.{Program, last_pulse_on}
use Rattle.node_api.specs.Run.{last_state}
use Rattle.number_rows.specs.Row.{numbered}

-- `node V pulse P`, and the result of a state
abbrev pub end_line : {S : Type 0} → ProgramTexts S → Net → ℕ → ℕ → S → List ℕ
end_line texts net v p state =
    numbered (codes "node ") v ++ numbered (codes " pulse ") p ++ texts.result net v state ++ codes "\n"

-- the same of a node that a run of workers left
abbrev pub node_end : {S M : Type 0} → ProgramTexts S → Net → ℕ → Node S M → List ℕ
node_end texts net v node = end_line texts net v node.view.pulse node.state

-- the same of a gathered node
abbrev pub gathered_end : {S M : Type 0} → ProgramTexts S → Net → Gathered S M → List ℕ
gathered_end texts net g = node_end texts net g.vertex g.alpha.node

-- for each vertex, ascending, such a line of its last state in the synchronous run
abbrev pub ends_text : {S M E : Type 0} → Program S M E → ProgramTexts S → Net → List ℕ
ends_text program texts net =
    flat_map (λ v. end_line texts net v (last_pulse_on program net) (last_state program net v)) (vertices net)

-- the answer is the text of the last states of the synchronous run on the network that the input describes, as it is
-- set, and these states are what the program is for
abbrev pub IsEndsAnswer : {S M E : Type 0} → Program S M E → ProgramTexts S → Setting → List ℕ → List ℕ → Type 0
IsEndsAnswer program texts setting input answer =
    ReadsAs input (OfSet setting (λ net. IsNetwork net × (answer ≡ ends_text program texts net)
    × texts.Solves net (last_state program net)))
