-- A text has at most one answer of last states.
use Rattle.std.proofs.Common.{◌≡◌, ◌∙◌, ℕ, List, ap, sym}
use Rattle.dimacs_col.proofs.Unique.{one-graph}
use Rattle.dimacs_col.specs.Lines.{lines_of}
use Rattle.interference.specs.Net.{repeated}
use Rattle.node_api.specs.Program.{Program}
use Rattle.program_texts.specs.Texts.{ProgramTexts}
use Rattle.plan_answers.specs.Answers.{network_with}
use Rattle.play_inputs.specs.Roots.{rooted}
use Rattle.play_inputs.specs.declared.setting.Setting.{Setting}
use Rattle.play_inputs.specs.declared.setting.Setting.TheVariants.{AsRead, Repeating, Rooted}
use Rattle.play_runs.specs.Ends.{IsEndsAnswer, ends_text}

pub one-text : {S M E : Type 0} (program : Program S M E) (texts : ProgramTexts S) (setting : Setting) (input one other : List ℕ)
    → IsEndsAnswer program texts setting input one → IsEndsAnswer program texts setting input other → other ≡ one
one-text program texts AsRead input one other (graph, reads, (ok, is, solves)) (more, also, (fine, too, solve)) =
    too ∙ ap (λ g. ends_text program texts (network_with g)) (sym (one-graph (lines_of input) graph more reads also)) ∙ sym is
one-text program texts (Rooted root) input one other (graph, reads, (vertex, (ok, is, solves))) (more, also, (node, (fine, too, solve))) =
    too ∙ ap (λ g. ends_text program texts (rooted root (network_with g))) (sym (one-graph (lines_of input) graph more reads also)) ∙ sym is
one-text program texts (Repeating again) input one other (graph, reads, (ok, is, solves)) (more, also, (fine, too, solve)) =
    too ∙ ap (λ g. ends_text program texts (repeated again (network_with g))) (sym (one-graph (lines_of input) graph more reads also)) ∙ sym is
