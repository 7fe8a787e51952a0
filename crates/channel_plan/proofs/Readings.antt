-- What is known after one more line of a plan text.
use Rattle.std.proofs.Common.{◌≡◌, ◌+◌, ◌++◌, ◌∷◌, [], ◌∙◌, ℕ, IfErr, Option, Some, None, Result, Ok, Err, List, false, true, ap, refl, sym}
use Rattle.dimacs_col.specs.Lines.{Line}
use Rattle.channel_plan.specs.Reader.{IsSyntaxFault}
use Rattle.channel_plan.specs.Reading.{IsFaultOfReading, Row, is_header, known_after, read_at_end, read_from, reading_of, row_of}
use Rattle.channel_plan.specs.declared.plan.CheckFault.{CheckFault}
use Rattle.channel_plan.specs.declared.plan.CheckFault.TheVariants.{Barred, Clash, Memory, Missing, Stranger, Syntax, TooHigh, Twice}

-- ---- one line
pub known-blank : (known : Option (List Row)) (line : Line) → line ≡ [] → known_after known line ≡ Some known
unfolding known_after
known-blank known line e = rw e refl

pub row-wrong : (known : Option (List Row)) (rows : List Row) (line words : Line) (word : List ℕ) → known ≡ Some rows → line ≡ word ∷ words →
    row_of (word ∷ words) ≡ None → known_after known line ≡ None
unfolding known_after
row-wrong known rows line words word k e r = rw (k, e, r) refl

pub row-right : (known : Option (List Row)) (rows next : List Row) (line words : Line) (word : List ℕ) (row : Row) → known ≡ Some rows → line ≡ word ∷ words →
    row_of (word ∷ words) ≡ Some row → next ≡ rows ++ row ∷ [] → known_after known line ≡ Some (Some next)
unfolding known_after
row-right known rows next line words word row k e r n = rw (k, e, r, n) refl

pub header-wrong : (known : Option (List Row)) (line words : Line) (word : List ℕ) → known ≡ None → line ≡ word ∷ words → is_header (word ∷ words) ≡ false →
    known_after known line ≡ None
unfolding known_after
header-wrong known line words word k e h = rw (k, e, h) refl

pub header-right : (known : Option (List Row)) (next : List Row) (line words : Line) (word : List ℕ) → known ≡ None → line ≡ word ∷ words →
    is_header (word ∷ words) ≡ true → next ≡ [] → known_after known line ≡ Some (Some next)
unfolding known_after
header-right known next line words word k e h n = rw (k, e, h, n) refl

-- ---- all lines
abbrev pub then_read : ℕ → List Line → Option (Option (List Row)) → Result (List Row) ℕ
then_read n lines known = elim known [ None ↦ Err n | Some next ↦ read_from (n + 1) next lines ]

pub read-one : (n : ℕ) (known : Option (List Row)) (line : Line) (lines : List Line) →
    read_from n known (line ∷ lines) ≡ then_read n lines (known_after known line)
unfolding read_from
read-one n known line lines = refl

-- at the end no line is left
pub read-end : (lines : List Line) (n : ℕ) (known : Option (List Row)) (left : List Line) → left ≡ [] →
    read_from 1 None lines ≡ read_from n known left → read_from 1 None lines ≡ read_at_end known
unfolding read_from
read-end lines n known left none e = e ∙ ap (read_from n known) none

-- ---- faults
-- the fault of a line that is wrong where it stands
pub fault-line : (lines : List Line) (n : ℕ) (wrong : Type 0) (fault : CheckFault) → (wrong → read_from 1 None lines ≡ Err n) → IsSyntaxFault wrong n fault →
    IsFaultOfReading lines fault
fault-line lines n wrong Memory told is = tt
fault-line lines n wrong (Syntax m) told is = told is.0 ∙ ap Err (sym is.1)
fault-line lines n wrong (Missing v) told is = absurd is
fault-line lines n wrong (Stranger v) told is = absurd is
fault-line lines n wrong (Twice v) told is = absurd is
fault-line lines n wrong (Clash v w) told is = absurd is
fault-line lines n wrong (TooHigh v) told is = absurd is
fault-line lines n wrong (Barred v) told is = absurd is

pub fault-end : {A : Type 0} (lines : List Line) (n : ℕ) (wrong : Type 0) (r : Result A CheckFault) → (wrong → read_from 1 None lines ≡ Err n) →
    IfErr r (IsSyntaxFault wrong n) → IfErr r (IsFaultOfReading lines)
fault-end lines n wrong (Ok a) told is = tt
fault-end lines n wrong (Err fault) told is = fault-line lines n wrong fault told is

-- ---- an empty line
pub read-empty : reading_of ([] ∷ []) ≡ reading_of []
unfolding read_from known_after
read-empty = refl
