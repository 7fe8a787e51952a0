-- The plan of some colours is read as its rows: each row is a line of two numbers.
use Rattle.std.proofs.Common.{◌≡◌, ◌<◌, ◌≤◌, ◌+◌, ◌-◌, ◌*◌, ◌^◌, ◌++◌, ◌∷◌, [], ◌==◌, ◌∙◌, ℕ, true, false, Some, None, Ok, List, All, arith, ap, append_assoc}
use Rattle.std.proofs.Common.{append-nil, codes, cond, get_or, length, map, refl, rules, sym, take}
use Rattle.std.proofs.lemmas.Bool.{lt-ltb, ne_eqb}
use Rattle.std.proofs.lemmas.Fmt.{decimal_nonempty, digits_decimal}
use Rattle.std.proofs.lemmas.List.{length-append}
use Rattle.std.proofs.lemmas.List.Elements.{All-append, All-cons, All-from_recursion, All-get_or, All-head, All-nil, All-tail, All-weaker}
use Rattle.std.proofs.lemmas.List.Splits.{slice_split_at, slice_split_none}
use Rattle.std.proofs.lemmas.Str.Parse.{IsNumeralModel, numerals_by_fold, tells_all_ascii_digits}
use Rattle.std.specs.Fmt.{decimal}
use Rattle.std.specs.List.{filter, slice_split}
use Rattle.std.specs.Str.{all_ascii_digits}
use Rattle.std.specs.Str.Lines.{strip_carriage_return}
use Rattle.dimacs_col.specs.Lines.{Line, fields_of, is_blank, is_field, line_of, lines_of, small_number}
use Rattle.channel_plan.specs.PlanText.{plan_of, rows_from}
use Rattle.channel_plan.specs.Reading.{Row, known_after, read_from, reading_of, row_of, row_with, rows_of}
use Rattle.dimacs_col.proofs.SmallNumbers.{small-decimal}
use Rattle.channel_plan.proofs.Readings.{read-one, then_read}

-- ---- the digits of a number
abbrev read_on : ℕ → List ℕ → ℕ
read_on n [] = n
read_on n (c ∷ cs) = read_on (10 * n + (c - 48)) cs

own : IsNumeralModel (λ ds. all_ascii_digits ds ≡ true) (read_on 0)
own = numerals_by_fold _ (search rules) read_on (search rules)

abbrev IsDigit : ℕ → Type 0
IsDigit x = (48 ≤ x) × (x ≤ 57)

each-digit : (ds : List ℕ) → all_ascii_digits ds ≡ true → All IsDigit ds
each-digit [] e = All-nil IsDigit
each-digit (c ∷ cs) e = let p = tells_all_ascii_digits.parts c cs e in All-cons IsDigit c cs (omega (arith, p.0), omega (arith, p.0)) (each-digit cs p.1)

pub digits-of : (n : ℕ) → n < 2 ^ 64 → All IsDigit (decimal n)
digits-of n h = each-digit (decimal n) (digits_decimal own n h)

-- ---- the line of two numbers
abbrev spaced_pair : ℕ → ℕ → List ℕ
spaced_pair v channel = decimal v ++ 32 ∷ decimal channel

-- a byte that is a digit or a space
abbrev IsPlain : ℕ → Type 0
IsPlain x = ((x == 10) ≡ false) × ((x == 13) ≡ false)

plain-digit : (x : ℕ) → IsDigit x → IsPlain x
plain-digit x h = (ne_eqb x 10 (omega arith), ne_eqb x 13 (omega arith))

pair-plain : (v channel : ℕ) → v < 2 ^ 64 → channel < 2 ^ 64 → All IsPlain (spaced_pair v channel)
pair-plain v channel hv hc =
    All-append IsPlain (decimal v) (32 ∷ decimal channel) (All-weaker IsDigit IsPlain plain-digit (decimal v) (digits-of v hv))
    (All-cons IsPlain 32 (decimal channel) (refl, refl) (All-weaker IsDigit IsPlain plain-digit (decimal channel) (digits-of channel hc)))

-- no carriage return ends it
pair-kept : (v channel : ℕ) → v < 2 ^ 64 → channel < 2 ^ 64 → strip_carriage_return (spaced_pair v channel) ≡ spaced_pair v channel
pair-kept v channel hv hc =
    let text = spaced_pair v channel in
    let some : length text - 1 < length text = omega (arith, length-append (decimal v) (32 ∷ decimal channel)) in
    let last : (get_or text (length text - 1) 0 == 13) ≡ false = (All-get_or IsPlain text (length text - 1) 0 some (pair-plain v channel hv hc)).1 in
    ap (λ b. cond b (take (length text - 1) text) text) last

no-blank : (n : ℕ) → n < 2 ^ 64 → All (λ x. is_blank x ≡ false) (decimal n)
no-blank n h = All-weaker IsDigit (λ x. is_blank x ≡ false) blank-digit (decimal n) (digits-of n h)
  where
    blank-digit : (x : ℕ) → IsDigit x → is_blank x ≡ false
    blank-digit x d = let space : (x == 32) ≡ false = ne_eqb x 32 (omega arith) in let tab : (x == 9) ≡ false = ne_eqb x 9 (omega arith) in rw (space, tab) refl

pub pair-line : (v channel : ℕ) → v < 2 ^ 64 → channel < 2 ^ 64 → line_of (spaced_pair v channel) ≡ decimal v ∷ decimal channel ∷ []
unfolding fields_of
pair-line v channel hv hc =
    ap fields_of (pair-kept v channel hv hc)
    ∙ ap (filter is_field) (slice_split_at is_blank (decimal v) 32 (decimal channel) (no-blank v hv) refl ∙
    ap (λ ps. decimal v ∷ ps) (slice_split_none is_blank (decimal channel) (no-blank channel hc)))
    ∙ rw (lt-ltb 0 (length (decimal v)) (decimal_nonempty v hv), lt-ltb 0 (length (decimal channel)) (decimal_nonempty channel hc)) refl

-- ---- the lines of rows
abbrev row_lines : ℕ → List ℕ → List Line
row_lines v [] = [] ∷ []
row_lines v (colour ∷ colours) = (decimal v ∷ decimal (colour + 1) ∷ []) ∷ row_lines (v + 1) colours

rows-lines : (v : ℕ) (colours : List ℕ) → v + length colours ≤ 2 ^ 32 → All (λ colour. colour + 1 < 2 ^ 32) colours →
    lines_of (rows_from v colours) ≡ row_lines v colours
unfolding lines_of fields_of
rows-lines v [] few small = refl
rows-lines v (colour ∷ colours) few small =
    let c_small = All-head (λ c. c + 1 < 2 ^ 32) colour colours small in
    let hv : v < 2 ^ 64 = omega arith in
    let hc : colour + 1 < 2 ^ 64 = omega (arith, c_small) in
    let rest = rows_from (v + 1) colours in
    let plain = All-weaker IsPlain (λ x. (x == 10) ≡ false) (λ x h. h.0) (spaced_pair v (colour + 1)) (pair-plain v (colour + 1) hv hc) in
    ap (λ text. map line_of (slice_split (λ byte. byte == 10) text)) (append_assoc (spaced_pair v (colour + 1)) (10 ∷ []) rest)
    ∙ ap (map line_of) (slice_split_at (λ byte. byte == 10) (spaced_pair v (colour + 1)) 10 rest plain refl)
    ∙ ap (λ l. l ∷ map line_of (slice_split (λ byte. byte == 10) rest)) (pair-line v (colour + 1) hv hc)
    ∙ ap (λ ls. (decimal v ∷ decimal (colour + 1) ∷ []) ∷ ls) (rows-lines (v + 1) colours (omega arith) (All-tail (λ c. c + 1 < 2 ^ 32) colour colours small))

row-is : (v colour : ℕ) → v < 2 ^ 32 → colour + 1 < 2 ^ 32 → row_of (decimal v ∷ decimal (colour + 1) ∷ []) ≡ Some (v, colour + 1)
row-is v colour hv hc =
    let some : (colour + 1 == 0) ≡ false = ne_eqb (colour + 1) 0 (omega arith) in
    ap (λ o. row_with o (small_number (decimal (colour + 1)))) (small-decimal v hv) ∙ ap (row_with (Some v)) (small-decimal (colour + 1) hc) ∙ rw some refl

read-end : (n : ℕ) (before : List Row) → read_from n (Some before) ([] ∷ []) ≡ Ok before
unfolding read_from known_after
read-end n before = refl

read-row : (n v channel : ℕ) (before : List Row) (line : Line) (lines : List Line) (w : List ℕ) (ws : Line) → line ≡ w ∷ ws →
    row_of line ≡ Some (v, channel) → read_from n (Some before) (line ∷ lines) ≡ read_from (n + 1) (Some (before ++ (v, channel) ∷ [])) lines
unfolding known_after
read-row n v channel before line lines w ws cons is =
    let known : known_after (Some before) line ≡ Some (Some (before ++ (v, channel) ∷ [])) =
    (let h : row_of (w ∷ ws) ≡ Some (v, channel) = ap row_of (sym cons) ∙ is in ap (known_after (Some before)) cons ∙ rw h refl) in
    read-one n (Some before) line lines ∙ ap (then_read n lines) known

read-rows : (n v : ℕ) (before : List Row) (colours : List ℕ) → v + length colours ≤ 2 ^ 32 → All (λ colour. colour + 1 < 2 ^ 32) colours →
    read_from n (Some before) (row_lines v colours) ≡ Ok (before ++ rows_of v colours)
read-rows n v before [] few small = read-end n before ∙ ap Ok (sym (append-nil before))
read-rows n v before (colour ∷ colours) few small =
    let c_small = All-head (λ c. c + 1 < 2 ^ 32) colour colours small in
    read-row n v (colour + 1) before (decimal v ∷ decimal (colour + 1) ∷ []) (row_lines (v + 1) colours) (decimal v) (decimal (colour + 1) ∷ []) refl
    (row-is v colour (omega arith) c_small)
    ∙ read-rows (n + 1) (v + 1) (before ++ (v, colour + 1) ∷ []) colours (omega arith) (All-tail (λ c. c + 1 < 2 ^ 32) colour colours small)
    ∙ ap Ok (append_assoc before ((v, colour + 1) ∷ []) (rows_of (v + 1) colours))

-- ---- the text
pub plan-lines : (colours : List ℕ) → lines_of (plan_of colours) ≡ (codes "plan" ∷ []) ∷ lines_of (rows_from 1 colours)
unfolding lines_of fields_of
plan-lines colours =
    ap (map line_of) (slice_split_at (λ byte. byte == 10) (codes "plan") 10 (rows_from 1 colours) (All-from_recursion (λ x. (x == 10) ≡ false) (codes "plan")
    (refl, (refl, (refl, (refl, tt))))) refl)

read-plan : (lines : List Line) → read_from 1 None ((codes "plan" ∷ []) ∷ lines) ≡ read_from 2 (Some []) lines
unfolding read_from known_after
read-plan lines = refl

pub written-read : (colours : List ℕ) → 1 + length colours ≤ 2 ^ 32 → All (λ colour. colour + 1 < 2 ^ 32) colours →
    reading_of (lines_of (plan_of colours)) ≡ Ok (rows_of 1 colours)
written-read colours few small =
    ap reading_of (plan-lines colours ∙ ap (λ ls. (codes "plan" ∷ []) ∷ ls) (rows-lines 1 colours few small))
    ∙ read-plan (row_lines 1 colours) ∙ read-rows 2 1 [] colours few small
