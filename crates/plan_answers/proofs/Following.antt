-- A network text that ends in a line feed, and a plan text behind it: their lines.
-- The lines of both are the network's and then the plan's. A good line never begins with `plan`, which is
-- no kind of line, so the plan text begins where the plan does.
use Rattle.std.proofs.Common.{◌≡◌, ◌++◌, ◌∷◌, [], ◌==◌, ◌∙◌, ◌||◌, ℕ, Bool, true, false, Some, None, List, append_assoc, ap, codes, map, refl, sym}
use Rattle.std.proofs.lemmas.List.{map-append}
use Rattle.std.proofs.lemmas.Slice.Eq.{bytes_eq-Decides}
use Rattle.std.specs.List.{slice_split}
use Rattle.std.specs.Str.{bytes_eq}
use Rattle.dimacs_col.specs.Kinds.{kind_of, kind_of_word}
use Rattle.dimacs_col.specs.Lines.{Line, line_of, lines_of}
use Rattle.dimacs_col.specs.Reading.{AllGood, number_after, verdict}
use Rattle.dimacs_col.specs.declared.fault.ColFault.TheVariants.{UnknownLine}
use Rattle.dimacs_col.specs.declared.kind.Kind.TheVariants.{Unknown}
use Rattle.dimacs_col.proofs.Verdicts.{verdict-unknown}
use Rattle.dimacs_col.specs.Split.{begins}
use Rattle.channel_plan.specs.Split.{plan_word}
use Rattle.dimacs_col.proofs.Splitting.{AreBefore, before-cons, before-none}

abbrev is_feed : ℕ → Bool
is_feed byte = byte == 10

abbrev parts_of : List ℕ → List (List ℕ)
parts_of text = slice_split is_feed text

-- ---- the parts of two texts
-- a text has a first part
first-of : (text : List ℕ) → (first : List ℕ) × (others : List (List ℕ)) × (parts_of text ≡ first ∷ others)
first-of [] = ([], [], refl)
first-of (x ∷ xs) = first-by (is_feed x) refl (first-of xs)
  where
    first-by : (b : Bool) → is_feed x ≡ b → (first : List ℕ) × (others : List (List ℕ)) × (parts_of xs ≡ first ∷ others) → (first : List ℕ) ×
        (others : List (List ℕ)) × (parts_of (x ∷ xs) ≡ first ∷ others)
    first-by true e more = ([], parts_of xs, rw e refl)
    first-by false e more = (x ∷ more.0, more.1, rw (e, more.2) refl)

parts-cons : (x : ℕ) (xs end : List ℕ) → parts_of ((xs ++ 10 ∷ []) ++ end) ≡ parts_of xs ++ parts_of end → (b : Bool) → is_feed x ≡ b →
    parts_of (((x ∷ xs) ++ 10 ∷ []) ++ end) ≡ parts_of (x ∷ xs) ++ parts_of end
parts-cons x xs end more true e = rw (e, more) refl
parts-cons x xs end more false e = let first = first-of xs in rw (e, more, first.2) refl

pub parts-of-both : (xs end : List ℕ) → parts_of ((xs ++ 10 ∷ []) ++ end) ≡ parts_of xs ++ parts_of end
parts-of-both [] end = refl
parts-of-both (x ∷ xs) end = parts-cons x xs end (parts-of-both xs end) (is_feed x) refl

pub lines-of-both : (xs end : List ℕ) → lines_of ((xs ++ 10 ∷ []) ++ end) ≡ lines_of xs ++ lines_of end
unfolding lines_of
lines-of-both xs end = ap (map line_of) (parts-of-both xs end) ∙ map-append line_of (parts_of xs) (parts_of end)

-- ---- a good line begins no plan text
plan-kind : kind_of_word (codes "plan") ≡ Unknown
unfolding kind_of_word
plan-kind = refl

or-false : (b : Bool) → (b || false) ≡ true → b ≡ true
or-false true e = refl
or-false false e = e

abbrev begins_plan : Line → Bool
begins_plan line = begins plan_word line

line-kind : (line : Line) → begins_plan line ≡ true → kind_of line ≡ Unknown
line-kind [] e = absurd cc
line-kind (word ∷ words) e = let is : word ≡ codes "plan" = (bytes_eq-Decides word (codes "plan")).0 (or-false (bytes_eq word (codes "plan")) e) in
    ap kind_of_word is ∙ plan-kind

good-line : (before : List Line) (line : Line) → verdict before line ≡ None → begins_plan line ≡ false
good-line before line good = good-by (begins_plan line) refl
  where
    good-by : (b : Bool) → begins_plan line ≡ b → begins_plan line ≡ false
    good-by true e = let wrong : Some (UnknownLine (number_after before)) ≡ None = sym (verdict-unknown before line (line-kind line e)) ∙ good in absurd cc
    good-by false e = e

good-rest : (lines before rest : List Line) → AllGood lines → lines ≡ before ++ rest → AreBefore plan_word rest
good-rest lines before [] good e = before-none plan_word
good-rest lines before (line ∷ rest) good e =
    before-cons plan_word line rest (good-line before line (good before line rest e)) (good-rest lines (before ++ line ∷ []) rest good (e ∙
    sym (append_assoc before (line ∷ []) rest)))

pub good-before : (lines : List Line) → AllGood lines → AreBefore plan_word lines
good-before lines good = good-rest lines [] lines good refl
