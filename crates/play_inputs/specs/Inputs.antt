-- The faults of the text of a network.
use Rattle.std.specs.Prelude.{ℕ, List}
use Rattle.dimacs_col.specs.Lines.{lines_of}
use Rattle.dimacs_col.specs.Reading.{IsFault}
use Rattle.interference.specs.Making.{IsFaultOf}
use Rattle.plan_answers.specs.Answers.{ReadsAs}
use Rattle.play_inputs.specs.Settings.{LacksRoot, OfSet}
use Rattle.play_inputs.specs.declared.fault.PlayFault.{PlayFault}
use Rattle.play_inputs.specs.declared.fault.PlayFault.TheVariants as play
use Rattle.play_inputs.specs.declared.setting.Setting.{Setting}

-- the fault of a text: that of its reading; or that the root which is set, if one is, is no vertex; or that of the
-- network which was read, as it is set
abbrev pub IsFaultOfText : Setting → List ℕ → PlayFault → Type 0
IsFaultOfText setting text (play.Col fault) = IsFault (lines_of text) fault
IsFaultOfText setting text (play.NoRoot v) = ReadsAs text (LacksRoot setting v)
IsFaultOfText setting text (play.Net fault) = ReadsAs text (OfSet setting (λ net. IsFaultOf net fault))
IsFaultOfText setting text play.Memory = Unit {0}
IsFaultOfText setting text _ = ⊥
