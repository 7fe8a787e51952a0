-- A text that is read is `plan` and its rows, a line each, and such a text is read.
use Rattle.std.proofs.Common.{◌≡◌, ◌+◌, ◌++◌, ◌∷◌, [], ◌∙◌, ℕ, Bool, Option, Some, None, Ok, Err, List, false, true}
use Rattle.std.proofs.Common.{ap, append-nil, append_assoc, codes, map, refl, sym}
use Rattle.std.proofs.lemmas.Slice.Eq.{bytes_eq-Decides}
use Rattle.std.specs.List.{filter}
use Rattle.dimacs_col.specs.Lines.{Line, has_fields}
use Rattle.channel_plan.specs.Reading.{IsPlanText, Row, is_header, read_from, row_of}
use Rattle.channel_plan.proofs.Readings.{header-right, header-wrong, known-blank, read-one, row-right, row-wrong, then_read}

-- ---- from a reading
-- the rows that lines add to those before them
record AreRows (rows all : List Row) (lines : List Line) : Type 0 where
  more : List Row
  all_are : all ≡ rows ++ more
  rows_are : map row_of (filter has_fields lines) ≡ map Some more

blank-read : (n : ℕ) (known : Option (List Row)) (lines : List Line) → read_from n known ([] ∷ lines) ≡ read_from (n + 1) known lines
blank-read n known lines = read-one n known [] lines ∙ ap (then_read n lines) (known-blank known [] refl)

row-from : (n : ℕ) (rows all : List Row) (word : List ℕ) (words : Line) (lines : List Line) (o : Option Row) → row_of (word ∷ words) ≡ o →
    read_from n (Some rows) ((word ∷ words) ∷ lines) ≡ Ok all → ((row : Row) → read_from (n + 1) (Some (rows ++ row ∷ [])) lines ≡ Ok all →
    AreRows (rows ++ row ∷ []) all lines) → AreRows rows all ((word ∷ words) ∷ lines)
row-from n rows all word words lines None r e more =
    let told = read-one n (Some rows) (word ∷ words) lines ∙ ap (then_read n lines) (row-wrong (Some rows) rows (word ∷ words) words word refl refl r) in
    let wrong : Err n ≡ Ok all = sym told ∙ e in absurd cc
row-from n rows all word words lines (Some row) r e more =
    let told = read-one n (Some rows) (word ∷ words) lines ∙ ap (then_read n lines) (row-right (Some rows) rows (rows ++ row ∷ []) (word ∷ words) words word
    row refl refl r refl) in
    let is = more row (sym told ∙ e) in record {
      more = row ∷ is.more;
      all_are = is.all_are ∙ append_assoc rows (row ∷ []) is.more;
      rows_are = ap (λ o. o ∷ map row_of (filter has_fields lines)) r ∙ ap (λ os. Some row ∷ os) is.rows_are;
    }

rows-from : (n : ℕ) (rows all : List Row) (lines : List Line) → read_from n (Some rows) lines ≡ Ok all → AreRows rows all lines
unfolding read_from
rows-from n rows all [] e = record { more = []; all_are = (let same : rows ≡ all = cc in sym (append-nil rows ∙ same)); rows_are = refl }
rows-from n rows all ([] ∷ lines) e = let is = rows-from (n + 1) rows all lines (sym (blank-read n (Some rows) lines) ∙ e) in
    record { more = is.more; all_are = is.all_are; rows_are = is.rows_are }
rows-from n rows all ((word ∷ words) ∷ lines) e = row-from n rows all word words lines (row_of (word ∷ words)) refl e
    (λ row left. rows-from (n + 1) (rows ++ row ∷ []) all lines left)

header-is : (word : List ℕ) (words : Line) → is_header (word ∷ words) ≡ true → word ∷ words ≡ codes "plan" ∷ []
header-is word [] e = ap (λ w. w ∷ []) ((bytes_eq-Decides word (codes "plan")).0 e)
header-is word (x ∷ xs) e = absurd cc

header-from : (n : ℕ) (all : List Row) (word : List ℕ) (words : Line) (lines : List Line) (b : Bool) → is_header (word ∷ words) ≡ b →
    read_from n None ((word ∷ words) ∷ lines) ≡ Ok all → IsPlanText ((word ∷ words) ∷ lines) all
header-from n all word words lines false h e =
    let told = read-one n None (word ∷ words) lines ∙ ap (then_read n lines) (header-wrong None (word ∷ words) words word refl refl h) in
    let wrong : Err n ≡ Ok all = sym told ∙ e in absurd cc
header-from n all word words lines true h e =
    let told = read-one n None (word ∷ words) lines ∙ ap (then_read n lines) (header-right None [] (word ∷ words) words word refl refl h refl) in
    let is = rows-from (n + 1) [] all lines (sym told ∙ e) in record {
      body = filter has_fields lines;
      lines_are = ap (λ line. line ∷ filter has_fields lines) (header-is word words h);
      rows_are = is.rows_are ∙ ap (map Some) (sym is.all_are);
    }

pub text-from : (n : ℕ) (all : List Row) (lines : List Line) → read_from n None lines ≡ Ok all → IsPlanText lines all
unfolding read_from
text-from n all [] e = absurd cc
text-from n all ([] ∷ lines) e = let is = text-from (n + 1) all lines (sym (blank-read n None lines) ∙ e) in
    record { body = is.body; lines_are = is.lines_are; rows_are = is.rows_are }
text-from n all ((word ∷ words) ∷ lines) e = header-from n all word words lines (is_header (word ∷ words)) refl e

-- ---- to a reading
rows-to : (n : ℕ) (rows more : List Row) (lines : List Line) → map row_of (filter has_fields lines) ≡ map Some more →
    read_from n (Some rows) lines ≡ Ok (rows ++ more)
unfolding read_from
rows-to n rows [] [] e = ap Ok (sym (append-nil rows))
rows-to n rows (row ∷ more) [] e = absurd cc
rows-to n rows more ([] ∷ lines) e = blank-read n (Some rows) lines ∙ rows-to (n + 1) rows more lines e
rows-to n rows [] ((word ∷ words) ∷ lines) e = absurd cc
rows-to n rows (row ∷ more) ((word ∷ words) ∷ lines) e =
    let here : row_of (word ∷ words) ≡ Some row = cc in
    let left : map row_of (filter has_fields lines) ≡ map Some more = cc in
    read-one n (Some rows) (word ∷ words) lines ∙ ap (then_read n lines) (row-right (Some rows) rows (rows ++ row ∷ []) (word ∷ words) words word row refl
    refl here refl)
    ∙ rows-to (n + 1) (rows ++ row ∷ []) more lines left ∙ ap Ok (append_assoc rows (row ∷ []) more)

pub text-to : (n : ℕ) (rows : List Row) (lines body : List Line) → filter has_fields lines ≡ (codes "plan" ∷ []) ∷ body → map row_of body ≡ map Some rows →
    read_from n None lines ≡ Ok rows
text-to n rows [] body f r = absurd cc
text-to n rows ([] ∷ lines) body f r = blank-read n None lines ∙ text-to (n + 1) rows lines body f r
text-to n rows ((word ∷ words) ∷ lines) body f r =
    let line : word ∷ words ≡ codes "plan" ∷ [] = cc in
    let rest : filter has_fields lines ≡ body = cc in
    let header : is_header (word ∷ words) ≡ true = ap is_header line in
    read-one n None (word ∷ words) lines ∙ ap (then_read n lines) (header-right None [] (word ∷ words) words word refl refl header refl)
    ∙ rows-to (n + 1) [] rows lines (ap (map row_of) rest ∙ r)
