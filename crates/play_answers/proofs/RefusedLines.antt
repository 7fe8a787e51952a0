-- The number of a refused entry's line: the line is the entry (entry-at), whatever the refusal (refusal).
use Rattle.std.proofs.Common.{◌≡◌, ◌≢◌, ◌++◌, ◌∷◌, [], ◌∙◌, ◌<◌, ℕ, Option, Some, None, Ok, List, ap, arith, codes, inl, length, map}
use Rattle.std.proofs.Common.{refl, slice_get, slice_index_or, subst, sym, take}
use Rattle.std.proofs.lemmas.List.{length-append}
use Rattle.dimacs_col.specs.Lines.{Line}
use Rattle.interference.specs.Net.{IsNetwork, Net}
use Rattle.node_api.specs.Program.{Program}
use Rattle.event_rule.specs.declared.refused.RunRefused.TheVariants as run
use Rattle.event_rule.specs.Replays.{IsReplay}
use Rattle.net_core.specs.Replays.{Stops}
use Rattle.net_core.proofs.Decided.{by-index, decided}
use Rattle.entries.specs.declared.rows.Row.{Row}
use Rattle.net_core.specs.declared.refused.ReplayRefused.{ReplayRefused}
use Rattle.net_core.specs.declared.refused.ReplayRefused.TheVariants as replay
use Rattle.transcripts.specs.Behind.{entry_lines, entry_on}
use Rattle.transcripts.specs.Editions.{One}
use Rattle.transcripts.specs.EntryLines.{row_of}
use Rattle.transcripts.specs.Reading.{Transcript}
use Rattle.transcripts.proofs.Either.{read-one-behind}
use Rattle.transcripts.proofs.EntryNumbers.{entries-have-lines}
use Rattle.program_texts.specs.PayloadTexts.{PayloadTexts}
use Rattle.play_answers.specs.ReplayAnswers.{HasLineOf, IsFaultOfEntry, IsFaultOfTranscript, IsRefusal, IsRefusalOfEntry, StopsThere}
use Rattle.play_answers.specs.ReplayAnswers.{fault_at, index_of, transcript_in, words_text}
use Rattle.play_inputs.specs.declared.replays.ReplayFault.{ReplayFault}
use Rattle.play_inputs.specs.declared.replays.ReplayFault.TheVariants as fault

pub entry-at : {X : Type 0} (f : ℕ → Option X) (numbers : List ℕ) (before : List X) (row : X) (after : List X) →
    map f numbers ≡ map (λ x. Some x) (before ++ row ∷ after) → f (slice_index_or numbers (length before) 0) ≡ Some row
entry-at f [] [] row after e = absurd cc
entry-at f [] (first ∷ before) row after e = absurd cc
entry-at f (n ∷ numbers) [] row after e = cc
entry-at f (n ∷ numbers) (first ∷ before) row after e =
    let left : map f numbers ≡ map (λ x. Some x) (before ++ row ∷ after) = cc in entry-at f numbers before row after left

some-is : (k index : ℕ) → Some k ≡ Some index → index ≡ k
some-is k index e = cc

none-is : (k index : ℕ) → None ≡ Some index → index ≡ k
none-is k index e = absurd cc

get-at : {X : Type 0} (before : List X) (row : X) (after : List X) → slice_get (before ++ (row ∷ after)) (length before) ≡ Some row
get-at [] row after = refl
get-at (first ∷ before) row after = get-at before row after

take-at : {X : Type 0} (before after : List X) → take (length before) (before ++ after) ≡ before
take-at [] after = refl
take-at (first ∷ before) after = ap (λ l. first ∷ l) (take-at before after)

pub not-memory : (refused : ReplayRefused) (index : ℕ) → index_of refused ≡ Some index → refused ≢ replay.Run run.Memory
not-memory (replay.Run run.Memory) index e = absurd cc
not-memory (replay.Run (run.NotReady k)) index e = λ same. cc
not-memory (replay.Run (run.NothingToPut k)) index e = λ same. cc
not-memory (replay.Run (run.LinkEmpty k)) index e = λ same. cc
not-memory (replay.Run (run.NoSuch k)) index e = λ same. cc
not-memory (replay.WrongWire k) index e = λ same. cc

module _ {S M E : Type 0} (program : Program S M E) where
  -- the index that a refusal has is that of the refused entry
  index-is : (net : Net) (rows : List (Row M)) (refused : ReplayRefused) (index : ℕ) → (stops : Stops program net rows refused) →
      index_of refused ≡ Some index → index ≡ length stops.before
  index-is net rows refused index stops e =
      let k = length stops.before in
      let same = some-is k index in
      by-index (λ r. index_of r ≡ Some index → index ≡ k) k same same same same (none-is k index) same stops.reason
      (ap index_of (sym stops.index) ∙ e)

  -- so there is such an entry
  pub index-within : (net : Net) (rows : List (Row M)) (refused : ReplayRefused) (index : ℕ) → StopsThere program net rows refused →
      index_of refused ≡ Some index → index < length rows
  index-within net rows refused index there e =
      let stops = there (not-memory refused index e) in
      let is = index-is net rows refused index stops e in
      let split = ap (λ l. length l) stops.splits ∙ length-append stops.before (stops.row ∷ stops.after) in
      omega (arith, is, split)

module _ {S M E : Type 0} (program : Program S M E) (payloads : PayloadTexts M) where
  -- The entries before the refused one, replayed once more, lead to the state in which the entries stop.
  pub says-there : (net : Net) → IsNetwork net → (rows : List (Row M)) (numbers : List ℕ) (refused : ReplayRefused) (reported : ReplayFault) →
      (stops : Stops program net rows refused) → (is : IsRefusalOfEntry program payloads net rows numbers refused reported) →
      is.words.items ≡ words_text program payloads net stops.reached stops.row refused
  says-there net ok rows numbers refused reported stops is =
      let place = index-is program net rows refused is.index stops is.is_index in
      let before : take is.index rows ≡ stops.before =
      ap (λ k. take k rows) place ∙ ap (take (length stops.before)) stops.splits ∙ take-at stops.before (stops.row ∷ stops.after) in
      let here : Some is.row ≡ Some stops.row =
      sym is.is_row ∙ ap (λ k. slice_get rows k) place ∙ ap (λ l. slice_get l (length stops.before)) stops.splits
      ∙ get-at stops.before stops.row stops.after in
      let row : is.row ≡ stops.row = cc in
      let state : is.reached ≡ stops.reached =
      (decided program net ok).one_state stops.before is.reached stops.reached
      (subst (λ l. IsReplay program net l is.reached) before is.is_replay) stops.is_replay in
      is.says ∙ ap (λ s. words_text program payloads net s is.row refused) state
      ∙ ap (λ r. words_text program payloads net stops.reached r refused) row

  pub entry-refusal : (net : Net) (rows : List (Row M)) (numbers : List ℕ) (refused : ReplayRefused) (reported : ReplayFault) →
      IsFaultOfEntry program payloads net rows numbers refused reported → reported ≢ fault.Memory
      → IsRefusalOfEntry program payloads net rows numbers refused reported
  entry-refusal net rows numbers refused (fault.Syntax n) so isnt = so
  entry-refusal net rows numbers refused (fault.WrongProgram n words) so isnt = so
  entry-refusal net rows numbers refused (fault.NotReady n words) so isnt = so
  entry-refusal net rows numbers refused (fault.NothingToPut n words) so isnt = so
  entry-refusal net rows numbers refused (fault.LinkEmpty n words) so isnt = so
  entry-refusal net rows numbers refused (fault.NoSuch n) so isnt = so
  entry-refusal net rows numbers refused (fault.WrongWire n words) so isnt = so
  entry-refusal net rows numbers refused (fault.WrongStamp n) so isnt = so
  entry-refusal net rows numbers refused (fault.NotWhole n) so isnt = so
  entry-refusal net rows numbers refused fault.Memory so isnt = absurd (isnt refl)

  pub entry-fault : (net : Net) (rows : List (Row M)) (numbers : List ℕ) (refused : ReplayRefused) (reported : ReplayFault) →
      IsRefusalOfEntry program payloads net rows numbers refused reported → IsFaultOfEntry program payloads net rows numbers refused reported
  entry-fault net rows numbers refused (fault.Syntax n) so = so
  entry-fault net rows numbers refused (fault.WrongProgram n words) so = so
  entry-fault net rows numbers refused (fault.NotReady n words) so = so
  entry-fault net rows numbers refused (fault.NothingToPut n words) so = so
  entry-fault net rows numbers refused (fault.LinkEmpty n words) so = so
  entry-fault net rows numbers refused (fault.NoSuch n) so = so
  entry-fault net rows numbers refused (fault.WrongWire n words) so = so
  entry-fault net rows numbers refused (fault.WrongStamp n) so = so
  entry-fault net rows numbers refused (fault.NotWhole n) so = so
  entry-fault net rows numbers refused fault.Memory so = tt

module _ {S M E : Type 0} (program : Program S M E) (payloads : PayloadTexts M) where
  refusal : (net : Net) → IsNetwork net → (lines : List Line) (read : Transcript M) (refused : ReplayRefused) (reported : ReplayFault)
      → transcript_in payloads lines ≡ Ok (One read) →
      Stops program net read.1 refused → IsRefusalOfEntry program payloads net read.1 (entry_lines lines) refused reported →
      IsRefusal program payloads net lines reported
  refusal net ok lines read refused reported e stops so =
      let is = so.is_reported in
      let rows = (entries-have-lines (codes "1") (row_of payloads.payload_of) lines read (read-one-behind payloads.payload_of lines read e)).rows_are
      ∙ ap (map (λ x. Some x)) stops.splits in
      let numbers = entry_lines lines in
      let line = entry-at (entry_on payloads.payload_of lines) numbers stops.before stops.row stops.after rows in
      let has = by-index (λ r. HasLineOf payloads lines stops.row (fault_at numbers so.words r)) (length stops.before) line line line line tt line
      stops.reason in
      record {
        read = read;
        refused = refused;
        is_read = e;
        stops = stops;
        words = so.words;
        says = says-there program payloads net ok read.1 numbers refused reported stops so;
        is_reported = is;
        has_line = subst (HasLineOf payloads lines stops.row) (sym (is ∙ ap (fault_at numbers so.words) stops.index)) has;
      }

  by-fault : (net : Net) (lines : List Line) (reported : ReplayFault) → (reported ≢ fault.Memory → IsRefusal program payloads net lines reported) →
      IsFaultOfTranscript program payloads net lines reported
  by-fault net lines (fault.Syntax n) is = absurd ((is (λ e. cc)).has_line)
  by-fault net lines (fault.WrongProgram n words) is = absurd ((is (λ e. cc)).has_line)
  by-fault net lines (fault.NotReady n words) is = inl (is (λ e. cc))
  by-fault net lines (fault.NothingToPut n words) is = inl (is (λ e. cc))
  by-fault net lines (fault.LinkEmpty n words) is = inl (is (λ e. cc))
  by-fault net lines (fault.NoSuch n) is = inl (is (λ e. cc))
  by-fault net lines (fault.WrongWire n words) is = inl (is (λ e. cc))
  by-fault net lines (fault.WrongStamp n) is = inl (is (λ e. cc))
  by-fault net lines (fault.NotWhole n) is = inl (is (λ e. cc))
  by-fault net lines fault.Memory is = tt

  pub fault-refused : (net : Net) → IsNetwork net → (lines : List Line) (read : Transcript M) (refused : ReplayRefused) (reported : ReplayFault) →
      transcript_in payloads lines ≡ Ok (One read) → (refused ≢ replay.Run run.Memory → Stops program net read.1 refused) →
      IsFaultOfEntry program payloads net read.1 (entry_lines lines) refused reported → IsFaultOfTranscript program payloads net lines reported
  fault-refused net ok lines read refused reported e stops is =
      by-fault net lines reported (λ no.
      let so = entry-refusal program payloads net read.1 (entry_lines lines) refused reported is no in
      refusal net ok lines read refused reported e (stops (not-memory refused so.index so.is_index)) so)
