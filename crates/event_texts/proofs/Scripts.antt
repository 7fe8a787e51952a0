-- The reading of events in other words: the events are those of the event lines, in order.
use Rattle.std.proofs.Common.{◌≡◌, ◌↔◌, ◌∙◌, ◌+◌, ◌++◌, ◌∷◌, [], ◌||◌, ℕ, Bool, Option, Some, None, Ok, List, true, false, not, codes, map, ap, refl, sym}
use Rattle.std.proofs.Common.{append_assoc, Err}
use Rattle.std.proofs.lemmas.List.{append-nil}
use Rattle.std.proofs.lemmas.Slice.Eq.{bytes_eq-Decides}
use Rattle.std.specs.List.{filter}
use Rattle.std.specs.Str.{bytes_eq}
use Rattle.dimacs_col.specs.Kinds.{is_comment}
use Rattle.dimacs_col.specs.Lines.{Line}
use Rattle.event_rule.specs.declared.event.Event.{Event}
use Rattle.event_texts.specs.EventLines.{event_of, is_event_word}
use Rattle.event_texts.specs.Reading.{Script, from_first, is_written, known_after, numbered, read_from, read_row, rows_of}
use Rattle.event_texts.proofs.Readings.{known-blank, known-event, known-passed, known-wrong, read-one, then_read}

-- ---- an event's word begins no comment
no-comment : (word other : List ℕ) → bytes_eq word other ≡ true → is_comment other ≡ false → is_comment word ≡ false
no-comment word other e is = ap is_comment ((bytes_eq-Decides word other).0 e) ∙ is

word-by : (word : List ℕ) (a b c : Bool) → bytes_eq word (codes "pulse") ≡ a → bytes_eq word (codes "put") ≡ b → bytes_eq word (codes "take") ≡ c →
    (a || (b || (c || false))) ≡ true → is_comment word ≡ false
word-by word true b c p q r e = no-comment word (codes "pulse") p refl
word-by word false true c p q r e = no-comment word (codes "put") q refl
word-by word false false true p q r e = no-comment word (codes "take") r refl
word-by word false false false p q r e = absurd cc

event-word : (word : List ℕ) → is_event_word word ≡ true → is_comment word ≡ false
event-word word e =
    word-by word (bytes_eq word (codes "pulse")) (bytes_eq word (codes "put")) (bytes_eq word (codes "take")) refl refl refl e

-- ---- behind the first event
abbrev written : ℕ → List Line → List (ℕ × Line)
written n lines = filter is_written (numbered n lines)

-- the script is what was known and more, and those are the rows of the lines
abbrev GoesOn : Script → List (ℕ × Line) → Script → Type 0
GoesOn known lines script = (more : Script) × (script ≡ known ++ more) × (map read_row lines ≡ rows_of more)

one-more : (known script : Script) (n : ℕ) (event : Event) (line : Line) (lines : List (ℕ × Line)) → event_of line ≡ Some event →
    GoesOn (known ++ (n, event) ∷ []) lines script → GoesOn known ((n, line) ∷ lines) script
one-more known script n event line lines e (more, is, rows) = (
  (n, event) ∷ more,
  is ∙ append_assoc known ((n, event) ∷ []) more,
  ap (λ read. (n, read) ∷ map read_row lines) e ∙ ap (λ ts. (n, Some event) ∷ ts) rows,
)

-- one line, read forwards and backwards
pass : (n : ℕ) (known next script : Script) (line : Line) (lines : List Line) → known_after n known line ≡ Some next →
    read_from n known (line ∷ lines) ≡ Ok script → read_from (n + 1) next lines ≡ Ok script
pass n known next script line lines k e = sym (read-one n known line lines ∙ ap (then_read n lines) k) ∙ e

stop : (n : ℕ) (known script : Script) (line : Line) (lines : List Line) → known_after n known line ≡ None →
    read_from n known (line ∷ lines) ≡ Ok script → ⊥
stop n known script line lines k e = let wrong : Err n ≡ Ok script = sym (read-one n known line lines ∙ ap (then_read n lines) k) ∙ e in cc

goes-on : (lines : List Line) (n : ℕ) (first : ℕ × Event) (known script : Script) → read_from n (first ∷ known) lines ≡ Ok script →
    GoesOn (first ∷ known) (written n lines) script
unfolding read_from
goes-on [] n first known script e = let same : first ∷ known ≡ script = cc in ([], sym same ∙ sym (append-nil (first ∷ known)), refl)
goes-on ([] ∷ lines) n first known script e =
    goes-on lines (n + 1) first known script (pass n (first ∷ known) (first ∷ known) script [] lines (known-blank n (first ∷ known) [] refl) e)
goes-on ((word ∷ words) ∷ lines) n first known script e = by-word (is_comment word) refl (goes-on lines)
  where
    Later : Type 0
    Later = (n : ℕ) (first : ℕ × Event) (known script : Script) → read_from n (first ∷ known) lines ≡ Ok script →
        GoesOn (first ∷ known) (written n lines) script

    by-event : (o : Option Event) → is_comment word ≡ false → event_of (word ∷ words) ≡ o → Later →
        GoesOn (first ∷ known) (written n ((word ∷ words) ∷ lines)) script
    by-event None c r later = absurd (stop n (first ∷ known) script (word ∷ words) lines (known-wrong n (first ∷ known) (word ∷ words) words word refl c r) e)
    by-event (Some event) c r later =
        let next : Script = known ++ (n, event) ∷ [] in
        rw c (one-more (first ∷ known) script n event (word ∷ words) (written (n + 1) lines) r (later (n + 1) first next script
        (pass n (first ∷ known) (first ∷ next) script (word ∷ words) lines
        (known-event n (first ∷ known) (first ∷ next) (word ∷ words) words word event refl c r refl) e)))

    by-word : (b : Bool) → is_comment word ≡ b → Later → GoesOn (first ∷ known) (written n ((word ∷ words) ∷ lines)) script
    by-word true c later = rw c (later (n + 1) first known script
        (pass n (first ∷ known) (first ∷ known) script (word ∷ words) lines (known-passed n (first ∷ known) (word ∷ words) words word refl c) e))
    by-word false c later = by-event (event_of (word ∷ words)) c refl later

comes : (lines : List Line) (n : ℕ) (first : ℕ × Event) (known more : Script) → map read_row (written n lines) ≡ rows_of more →
    read_from n (first ∷ known) lines ≡ Ok ((first ∷ known) ++ more)
unfolding read_from
comes [] n first known [] m = ap (λ k. Ok k) (sym (append-nil (first ∷ known)))
comes [] n first known (row ∷ rows) m = absurd cc
comes ([] ∷ lines) n first known more m =
    read-one n (first ∷ known) [] lines ∙ ap (then_read n lines) (known-blank n (first ∷ known) [] refl) ∙ comes lines (n + 1) first known more m
comes ((word ∷ words) ∷ lines) n first known more m = by-word (is_comment word) refl (comes lines)
  where
    Later : Type 0
    Later = (n : ℕ) (first : ℕ × Event) (known more : Script) → map read_row (written n lines) ≡ rows_of more →
        read_from n (first ∷ known) lines ≡ Ok ((first ∷ known) ++ more)

    by-more : (more : Script) → is_comment word ≡ false → (n, event_of (word ∷ words)) ∷ map read_row (written (n + 1) lines) ≡ rows_of more → Later →
        read_from n (first ∷ known) ((word ∷ words) ∷ lines) ≡ Ok ((first ∷ known) ++ more)
    by-more [] c m later = absurd cc
    by-more ((k, event) ∷ rows) c m later =
        let pair : ◌≡◌ {A = ℕ × Option Event} (n, event_of (word ∷ words)) (k, Some event) = cc in
        let is : event_of (word ∷ words) ≡ Some event = ap (λ p. p.1) pair in
        let here : n ≡ k = ap (λ p. p.0) pair in
        let tail : map read_row (written (n + 1) lines) ≡ rows_of rows = cc in
        let next : Script = known ++ (n, event) ∷ [] in
        read-one n (first ∷ known) (word ∷ words) lines
        ∙ ap (then_read n lines) (known-event n (first ∷ known) (first ∷ next) (word ∷ words) words word event refl c is refl)
        ∙ later (n + 1) first next rows tail ∙ ap (λ k. Ok k) (append_assoc (first ∷ known) ((n, event) ∷ []) rows)
        ∙ ap (λ j. Ok ((first ∷ known) ++ (j, event) ∷ rows)) here

    by-word : (b : Bool) → is_comment word ≡ b → Later → read_from n (first ∷ known) ((word ∷ words) ∷ lines) ≡ Ok ((first ∷ known) ++ more)
    by-word true c later =
        read-one n (first ∷ known) (word ∷ words) lines
        ∙ ap (then_read n lines) (known-passed n (first ∷ known) (word ∷ words) words word refl c) ∙ later (n + 1) first known more (rw c at m)
    by-word false c later = by-more more c (rw c at m) later

-- ---- from the first line on
abbrev behind : ℕ → List Line → List (ℕ × Line)
behind n lines = filter is_written (from_first (numbered n lines))

reads : (lines : List Line) (n : ℕ) (script : Script) → read_from n [] lines ≡ Ok script → map read_row (behind n lines) ≡ rows_of script
unfolding read_from
reads [] n script e = let same : [] ≡ script = cc in ap rows_of same
reads ([] ∷ lines) n script e = reads lines (n + 1) script (pass n [] [] script [] lines (known-blank n [] [] refl) e)
reads ((word ∷ words) ∷ lines) n script e = by-word (is_event_word word) refl (reads lines)
  where
    Later : Type 0
    Later = (n : ℕ) (script : Script) → read_from n [] lines ≡ Ok script → map read_row (behind n lines) ≡ rows_of script

    by-event : (o : Option Event) → is_event_word word ≡ true → event_of (word ∷ words) ≡ o →
        (n, event_of (word ∷ words)) ∷ map read_row (written (n + 1) lines) ≡ rows_of script
    by-event None w r = absurd (stop n [] script (word ∷ words) lines (known-wrong n [] (word ∷ words) words word refl (ap not w) r) e)
    by-event (Some event) w r =
        let on = goes-on lines (n + 1) (n, event) [] script (pass n [] ((n, event) ∷ []) script (word ∷ words) lines
        (known-event n [] ((n, event) ∷ []) (word ∷ words) words word event refl (ap not w) r refl) e) in
        ap (λ read. (n, read) ∷ map read_row (written (n + 1) lines)) r ∙ ap (λ ts. (n, Some event) ∷ ts) on.2 ∙ ap rows_of (sym on.1)

    by-word : (b : Bool) → is_event_word word ≡ b → Later → map read_row (behind n ((word ∷ words) ∷ lines)) ≡ rows_of script
    by-word true w later = rw (w, event-word word w) (by-event (event_of (word ∷ words)) w refl)
    by-word false w later =
        rw w (later (n + 1) script (pass n [] [] script (word ∷ words) lines (known-passed n [] (word ∷ words) words word refl (ap not w)) e))

is-read : (lines : List Line) (n : ℕ) (script : Script) → map read_row (behind n lines) ≡ rows_of script → read_from n [] lines ≡ Ok script
unfolding read_from
is-read [] n [] m = refl
is-read [] n (row ∷ rows) m = absurd cc
is-read ([] ∷ lines) n script m = read-one n [] [] lines ∙ ap (then_read n lines) (known-blank n [] [] refl) ∙ is-read lines (n + 1) script m
is-read ((word ∷ words) ∷ lines) n script m = by-word (is_event_word word) refl (is-read lines)
  where
    Later : Type 0
    Later = (n : ℕ) (script : Script) → map read_row (behind n lines) ≡ rows_of script → read_from n [] lines ≡ Ok script

    by-script : (script : Script) → is_event_word word ≡ true → (n, event_of (word ∷ words)) ∷ map read_row (written (n + 1) lines) ≡ rows_of script →
        read_from n [] ((word ∷ words) ∷ lines) ≡ Ok script
    by-script [] w m = absurd cc
    by-script ((k, event) ∷ rows) w m =
        let pair : ◌≡◌ {A = ℕ × Option Event} (n, event_of (word ∷ words)) (k, Some event) = cc in
        let is : event_of (word ∷ words) ≡ Some event = ap (λ p. p.1) pair in
        let here : n ≡ k = ap (λ p. p.0) pair in
        let tail : map read_row (written (n + 1) lines) ≡ rows_of rows = cc in
        read-one n [] (word ∷ words) lines
        ∙ ap (then_read n lines) (known-event n [] ((n, event) ∷ []) (word ∷ words) words word event refl (ap not w) is refl)
        ∙ comes lines (n + 1) (n, event) [] rows tail ∙ ap (λ j. Ok ((j, event) ∷ rows)) here

    by-word : (b : Bool) → is_event_word word ≡ b → Later → read_from n [] ((word ∷ words) ∷ lines) ≡ Ok script
    by-word true w later = by-script script w (rw (w, event-word word w) at m)
    by-word false w later =
        read-one n [] (word ∷ words) lines ∙ ap (then_read n lines) (known-passed n [] (word ∷ words) words word refl (ap not w))
        ∙ later (n + 1) script (rw w at m)

pub scripts : (lines : List Line) (script : Script) → (read_from 1 [] lines ≡ Ok script) ↔ (map read_row (behind 1 lines) ≡ rows_of script)
scripts lines script = (reads lines 1 script, is-read lines 1 script)
