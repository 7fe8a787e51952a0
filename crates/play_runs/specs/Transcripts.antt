-- The transcript of a run, on worker threads or on one thread.
use Rattle.std.specs.Prelude.{◌≡◌, ℕ, List}
use Rattle.interference.specs.Net.{Net, IsNetwork, count_of}
use Rattle.node_api.specs.Program.{Program}
use Rattle.entries.specs.declared.rows.StampedRow.{StampedRow}
use Rattle.event_rule.specs.State.{State}
use Rattle.event_rule.specs.Whole.{IsWholeReplay}
use Rattle.program_texts.specs.Texts.{ProgramTexts}
use Rattle.transcripts.specs.TranscriptText.{stamped_row_text, text_of}
use Rattle.program_texts.specs.PayloadTexts.{PayloadTexts}
use Rattle.plan_answers.specs.Answers.{ReadsAs}
use Rattle.play_inputs.specs.Settings.{OfSet}
use Rattle.play_inputs.specs.declared.setting.Setting.{Setting}
use Rattle.run_options.specs.declared.Edition.{Edition}
use Rattle.plan_runs.specs.Transcripts.{IsTranscriptOn, stamped_edition}

-- the answer is the transcript of a whole run of workers on the network that the input describes, as it is set: without
-- stamps, or with them and with the program's name if it is named
abbrev pub IsProgramTranscript : {S M E : Type 0} → Program S M E → PayloadTexts M → ProgramTexts S → Edition → Setting
    → List ℕ → List ℕ → Type 0
IsProgramTranscript program payloads texts edition setting input answer =
    ReadsAs input
    (OfSet setting (λ net. IsNetwork net × IsTranscriptOn program payloads (stamped_edition texts) edition net answer))

-- The text has these words of its edition, and rows that are a whole replay: the event machine plays them in their
-- order, each has the stamp that the counter of its node gives it, and in the end every node is drained and every link
-- empty.
pub record IsRecordText {S M E : Type 0} (program : Program S M E) (payloads : PayloadTexts M) (words : List ℕ)
    (net : Net) (text : List ℕ) : Type 0 where
  pub rows : List (StampedRow M)
  pub last : State S M
  pub is_replay : IsWholeReplay program net rows last
  pub is_text : text ≡ text_of words (stamped_row_text payloads) (count_of net) rows

-- the answer is the transcript of a whole run on the network that the input describes, as it is set; with stamps, and
-- with the program's name if it is named
abbrev pub IsLoneTranscript : {S M E : Type 0} → Program S M E → ProgramTexts S → PayloadTexts M → Setting → List ℕ
    → List ℕ → Type 0
IsLoneTranscript program texts payloads setting input answer =
    ReadsAs input
    (OfSet setting (λ net. IsNetwork net × IsRecordText program payloads (stamped_edition texts) net answer))
