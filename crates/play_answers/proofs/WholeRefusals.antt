-- The refusal of stamped entries, with its line: from that of `replay_whole`, and from the fault that is reported for it.
use Rattle.std.proofs.Common.{◌≡◌, ◌≢◌, ◌++◌, ◌∷◌, ◌∙◌, ℕ, Some, Ok, List, ap, inr, length, map, subst, sym}
use Rattle.std.specs.declared.vec.Vec.{Vec}
use Rattle.std.specs.declared.alloc.Global.{Global}
use Rattle.std.proofs.lemmas.List.{length-map, map-append}
use Rattle.dimacs_col.specs.Lines.{Line}
use Rattle.interference.specs.Net.{IsNetwork, Net}
use Rattle.node_api.specs.Program.{Program}
use Rattle.event_rule.specs.declared.refused.RunRefused.TheVariants as run
use Rattle.net_core.specs.Replays.{Stops, at_entry}
use Rattle.net_core.specs.Whole.{StopsAtEntry, StopsAtStamp, WhyNotWhole}
use Rattle.net_core.specs.declared.refused.ReplayRefused.{ReplayRefused}
use Rattle.net_core.specs.declared.refused.ReplayRefused.TheVariants as replay
use Rattle.net_core.specs.declared.refused.WholeRefused.{WholeRefused}
use Rattle.net_core.specs.declared.refused.WholeRefused.TheVariants as whole
use Rattle.net_core.proofs.Decided.{by-index}
use Rattle.transcripts.specs.Behind.{entry_lines, stamped_entry_on}
use Rattle.transcripts.specs.Editions.{Two}
use Rattle.transcripts.specs.Reading.{StampedTranscript}
use Rattle.entries.specs.Rows.{without_stamp}
use Rattle.entries.specs.declared.rows.Row.{Row}
use Rattle.entries.specs.declared.rows.StampedRow.{StampedRow}
use Rattle.transcripts.proofs.Either.{stamped-have-lines}
use Rattle.program_texts.specs.PayloadTexts.{PayloadTexts}
use Rattle.play_answers.specs.ReplayAnswers.{HasLine, IsFaultOfStamped, IsFaultOfTranscript, IsRefusalOfEntry, IsRefusalOfStampedEntry}
use Rattle.play_answers.specs.ReplayAnswers.{IsStampedLine, IsStampedRefusal, bare_rows}
use Rattle.play_answers.specs.ReplayAnswers.{SaysWhyNot, StopsThere, fault_at, first_line_in, line_at, transcript_in}
use Rattle.play_inputs.specs.declared.replays.ReplayFault.{ReplayFault}
use Rattle.play_inputs.specs.declared.replays.ReplayFault.TheVariants as fault
use Rattle.play_answers.proofs.RefusedLines.{entry-at, not-memory, says-there, entry-refusal}

abbrev bare : {M : Type 0} → StampedRow M → Row M
bare row = without_stamp row

-- stamped entries that stop at an entry do so without their stamps
abbrev stops-bare : {S M E : Type 0} (program : Program S M E) (net : Net) (rows : List (StampedRow M)) (refused : ReplayRefused) →
    StopsAtEntry program net rows refused → Stops program net (bare_rows rows) refused
stops-bare program net rows refused is = record {
  before = bare_rows is.at.before;
  row = bare is.at.row;
  after = bare_rows is.at.after;
  splits = ap bare_rows is.at.splits ∙ map-append bare is.at.before (is.at.row ∷ is.at.after);
  reached = is.at.reached;
  is_replay = is.at.is_replay.replay;
  reason = is.reason;
  why = is.why;
  index = is.index ∙ ap (λ k. at_entry k is.reason) (sym (length-map is.at.before bare));
}

inner-is : (r : ReplayRefused) → whole.Replay r ≡ whole.Replay (replay.Run run.Memory) → r ≡ replay.Run run.Memory
inner-is r same = cc

-- a refusal of stamped entries at an entry is one of the entries without their stamps
pub stops-there : {S M E : Type 0} (program : Program S M E) (net : Net) (rows : List (StampedRow M)) (refused : ReplayRefused) →
    SaysWhyNot program net rows (whole.Replay refused) → StopsThere program net (bare_rows rows) refused
stops-there program net rows refused why isnt =
    stops-bare program net rows refused (why (λ same. isnt (inner-is refused same)))

module _ {S M E : Type 0} (program : Program S M E) (payloads : PayloadTexts M)
    (net : Net) (ok : IsNetwork net) (lines : List Line) (read : StampedTranscript M) (e : transcript_in payloads lines ≡ Ok (Two read)) where
  -- the line of the entry behind others
  line-of : (before after : List (StampedRow M)) (row : StampedRow M) → read.1 ≡ before ++ (row ∷ after) →
      IsStampedLine payloads lines row (line_at (entry_lines lines) (length before))
  line-of before after row splits =
      entry-at (stamped_entry_on payloads.payload_of lines) (entry_lines lines) before row after
      ((stamped-have-lines payloads.payload_of lines read e).rows_are ∙ ap (map (λ r. Some r)) splits)

  stamped-refusal : (refused : ReplayRefused) (reported : ReplayFault) (stops : StopsAtEntry program net read.1 refused) →
      IsRefusalOfEntry program payloads net (bare_rows read.1) (entry_lines lines) refused reported →
      IsRefusalOfStampedEntry program payloads net lines read.1 refused stops reported
  stamped-refusal refused reported stops so =
      let numbers = entry_lines lines in
      let row = stops.at.row in
      let line = line-of stops.at.before stops.at.after row stops.at.splits in
      let has = by-index (λ r. HasLine (IsStampedLine payloads lines row) (fault_at numbers so.words r)) (length stops.at.before) line line line line tt line
      stops.reason in
      record {
        words = so.words;
        says = says-there program payloads net ok (bare_rows read.1) numbers refused reported (stops-bare program net read.1 refused stops) so;
        is_reported = so.is_reported;
        has_line = subst (HasLine (IsStampedLine payloads lines row)) (sym (so.is_reported ∙ ap (fault_at numbers so.words) stops.index)) has;
      }

  refusal-of : (refused : WholeRefused) (reported : ReplayFault) → reported ≢ fault.Memory →
      (refused ≢ whole.Replay (replay.Run run.Memory) → WhyNotWhole program net read.1 refused) →
      IsFaultOfStamped program payloads net read.1 (first_line_in lines) (entry_lines lines) refused reported →
      IsStampedRefusal program payloads net lines reported
  refusal-of (whole.Replay refused) reported isnt why is =
      let so = entry-refusal program payloads net (bare_rows read.1) (entry_lines lines) refused reported is isnt in
      let stops = why (λ same. not-memory refused so.index so.is_index (inner-is refused same)) in
      record { read = read; refused = whole.Replay refused; is_read = e; why = stops; is_reported = stamped-refusal refused reported stops so }
  refusal-of (whole.WrongStamp k) reported isnt why is =
      let stops : StopsAtStamp program net read.1 k = why (λ same. cc) in
      let here = line-of stops.at.before stops.at.after stops.at.row stops.at.splits in
      let line = subst (λ i. IsStampedLine payloads lines stops.at.row (line_at (entry_lines lines) i)) (sym stops.index) here in
      record {
        read = read;
        refused = whole.WrongStamp k;
        is_read = e;
        why = stops;
        is_reported = (is, subst (HasLine (IsStampedLine payloads lines stops.at.row)) (sym is) line);
      }
  refusal-of whole.NotWhole reported isnt why is =
      record { read = read; refused = whole.NotWhole; is_read = e; why = why (λ same. cc); is_reported = is }

-- the refusal of a line, or of the program that the first one names: no refusal of entries is one
abbrev IsOfText : ReplayFault → Type 0
IsOfText (fault.Syntax n) = Unit {0}
IsOfText (fault.WrongProgram n words) = Unit {0}
IsOfText _ = ⊥

no-text : (numbers : List ℕ) (words : Vec ℕ Global) (refused : ReplayRefused) → IsOfText (fault_at numbers words refused) → ⊥
no-text numbers words (replay.Run (run.NotReady k)) is = is
no-text numbers words (replay.Run (run.NothingToPut k)) is = is
no-text numbers words (replay.Run (run.LinkEmpty k)) is = is
no-text numbers words (replay.Run (run.NoSuch k)) is = is
no-text numbers words (replay.Run run.Memory) is = is
no-text numbers words (replay.WrongWire k) is = is

module _ {S M E : Type 0} (program : Program S M E) (payloads : PayloadTexts M) where
  by-fault : (net : Net) (lines : List Line) (reported : ReplayFault) →
      (reported ≢ fault.Memory → IsStampedRefusal program payloads net lines reported) →
      (IsOfText reported → ⊥) → IsFaultOfTranscript program payloads net lines reported
  by-fault net lines (fault.Syntax n) is never = absurd (never tt)
  by-fault net lines (fault.WrongProgram n words) is never = absurd (never tt)
  by-fault net lines (fault.NotReady n words) is never = inr (is (λ e. cc))
  by-fault net lines (fault.NothingToPut n words) is never = inr (is (λ e. cc))
  by-fault net lines (fault.LinkEmpty n words) is never = inr (is (λ e. cc))
  by-fault net lines (fault.NoSuch n) is never = inr (is (λ e. cc))
  by-fault net lines (fault.WrongWire n words) is never = inr (is (λ e. cc))
  by-fault net lines (fault.WrongStamp n) is never = inr (is (λ e. cc))
  by-fault net lines (fault.NotWhole n) is never = inr (is (λ e. cc))
  by-fault net lines fault.Memory is never = tt

  never-text : (net : Net) (rows : List (StampedRow M)) (first : ℕ) (numbers : List ℕ) (refused : WholeRefused) (reported : ReplayFault) →
      IsFaultOfStamped program payloads net rows first numbers refused reported → IsOfText reported → ⊥
  never-text net rows first numbers (whole.Replay refused) reported is text =
      let so = entry-refusal program payloads net (bare_rows rows) numbers refused reported is (λ m. subst IsOfText m text) in
      no-text numbers so.words refused (subst IsOfText so.is_reported text)
  never-text net rows first numbers (whole.WrongStamp k) reported is text = subst IsOfText is text
  never-text net rows first numbers whole.NotWhole reported is text = subst IsOfText is text

  pub whole-refused : (net : Net) → IsNetwork net → (lines : List Line) (nodes : ℕ) (rows : List (StampedRow M)) (refused : WholeRefused)
      (reported : ReplayFault) → transcript_in payloads lines ≡ Ok (Two (nodes, rows)) →
      (refused ≢ whole.Replay (replay.Run run.Memory) → WhyNotWhole program net rows refused) →
      IsFaultOfStamped program payloads net rows (first_line_in lines) (entry_lines lines) refused reported →
      IsFaultOfTranscript program payloads net lines reported
  whole-refused net ok lines nodes rows refused reported e why is =
      by-fault net lines reported (λ isnt. refusal-of program payloads net ok lines (nodes, rows) e refused reported isnt why is)
      (never-text net rows (first_line_in lines) (entry_lines lines) refused reported is)
