-- A text that is read is its first line and its rows, a line each, and such a text is read. Both editions are instances.
use Rattle.std.proofs.Common.{◌≡◌, ◌↔◌, ◌+◌, ◌++◌, ◌∷◌, [], ◌∙◌, ℕ, Option, Some, None, Ok, Err, List, ap, append-nil, append_assoc, map, refl, sym}
use Rattle.std.specs.List.{filter}
use Rattle.dimacs_col.specs.Lines.{Line, has_fields}
use Rattle.transcripts.specs.EntryLines.{header_of}
use Rattle.transcripts.specs.Reading.{Contents, IsText, read_from}
use Rattle.transcripts.proofs.Readings.{header-right, header-wrong, known-blank, read-one, row-right, row-wrong, then_read}

module _ {R : Type 0} (edition : List ℕ) (row_of : Line → Option R) where
  blank-read : (n : ℕ) (known : Option (Contents R)) (lines : List Line) →
      read_from edition row_of n known ([] ∷ lines) ≡ read_from edition row_of (n + 1) known lines
  blank-read n known lines = read-one edition row_of n known [] lines ∙ ap (then_read edition row_of n lines) (known-blank edition row_of known [] refl)

  -- ---- from a reading
  -- the entries that lines add to those before them
  record AreRows (told all : Contents R) (lines : List Line) : Type 0 where
    more : List (R)
    nodes_are : all.0 ≡ told.0
    all_are : all.1 ≡ told.1 ++ more
    rows_are : map row_of (filter has_fields lines) ≡ map (λ row. Some row) more

  row-from : (n : ℕ) (told all : Contents R) (word : List ℕ) (words : Line) (lines : List Line) (o : Option (R)) → row_of (word ∷ words) ≡ o →
      read_from edition row_of n (Some told) ((word ∷ words) ∷ lines) ≡ Ok all
      → ((row : R) → read_from edition row_of (n + 1) (Some (told.0, told.1 ++ row ∷ [])) lines ≡ Ok all → AreRows (told.0, told.1 ++ row ∷ []) all lines)
      → AreRows told all ((word ∷ words) ∷ lines)
  row-from n told all word words lines None r e more =
      let known = read-one edition row_of n (Some told) (word ∷ words) lines ∙ ap (then_read edition row_of n lines)
      (row-wrong edition row_of (Some told) told (word ∷ words) words word refl refl r) in
      let wrong : Err n ≡ Ok all = sym known ∙ e in absurd cc
  row-from n told all word words lines (Some row) r e more =
      let known = read-one edition row_of n (Some told) (word ∷ words) lines ∙ ap (then_read edition row_of n lines)
      (row-right edition row_of (Some told) told (told.0, told.1 ++ row ∷ []) (word ∷ words) words word row refl refl r refl) in
      let is = more row (sym known ∙ e) in record {
        more = row ∷ is.more;
        nodes_are = is.nodes_are;
        all_are = is.all_are ∙ append_assoc told.1 (row ∷ []) is.more;
        rows_are = ap (λ o. o ∷ map row_of (filter has_fields lines)) r ∙ ap (λ os. Some row ∷ os) is.rows_are;
      }

  rows-from : (n : ℕ) (told all : Contents R) (lines : List Line) → read_from edition row_of n (Some told) lines ≡ Ok all → AreRows told all lines
  unfolding read_from
  rows-from n told all [] e =
      let same : told ≡ all = cc in
      record { more = []; nodes_are = ap (λ t. t.0) (sym same); all_are = ap (λ t. t.1) (sym same) ∙ sym (append-nil told.1); rows_are = refl }
  rows-from n told all ([] ∷ lines) e =
      let is = rows-from (n + 1) told all lines (sym (blank-read n (Some told) lines) ∙ e) in
      record { more = is.more; nodes_are = is.nodes_are; all_are = is.all_are; rows_are = is.rows_are }
  rows-from n told all ((word ∷ words) ∷ lines) e =
      row-from n told all word words lines (row_of (word ∷ words)) refl e
      (λ row left. rows-from (n + 1) (told.0, told.1 ++ row ∷ []) all lines left)

  first-from : (n : ℕ) (all : Contents R) (word : List ℕ) (words : Line) (lines : List Line) (o : Option ℕ) → header_of edition (word ∷ words) ≡ o →
      read_from edition row_of n None ((word ∷ words) ∷ lines) ≡ Ok all → IsText edition row_of ((word ∷ words) ∷ lines) all
  first-from n all word words lines None h e =
      let known = read-one edition row_of n None (word ∷ words) lines ∙ ap (then_read edition row_of n lines)
      (header-wrong edition row_of None (word ∷ words) words word refl refl h) in
      let wrong : Err n ≡ Ok all = sym known ∙ e in absurd cc
  first-from n all word words lines (Some nodes) h e =
      let known = read-one edition row_of n None (word ∷ words) lines ∙ ap (then_read edition row_of n lines)
      (header-right edition row_of None (nodes, []) (word ∷ words) words word nodes refl refl h refl) in
      let is = rows-from (n + 1) (nodes, []) all lines (sym known ∙ e) in record {
        first = word ∷ words;
        body = filter has_fields lines;
        lines_are = refl;
        nodes_are = h ∙ ap (λ k. Some k) (sym is.nodes_are);
        rows_are = is.rows_are ∙ ap (map (λ row. Some row)) (sym is.all_are);
      }

  text-from : (n : ℕ) (all : Contents R) (lines : List Line) → read_from edition row_of n None lines ≡ Ok all → IsText edition row_of lines all
  unfolding read_from
  text-from n all [] e = absurd cc
  text-from n all ([] ∷ lines) e =
      let is = text-from (n + 1) all lines (sym (blank-read n None lines) ∙ e) in
      record { first = is.first; body = is.body; lines_are = is.lines_are; nodes_are = is.nodes_are; rows_are = is.rows_are }
  text-from n all ((word ∷ words) ∷ lines) e = first-from n all word words lines (header_of edition (word ∷ words)) refl e

  -- ---- to a reading
  rows-to : (n : ℕ) (told : Contents R) (more : List (R)) (lines : List Line) →
      map row_of (filter has_fields lines) ≡ map (λ row. Some row) more →
      read_from edition row_of n (Some told) lines ≡ Ok (told.0, told.1 ++ more)
  unfolding read_from
  rows-to n told [] [] e = ap (λ l. Ok (told.0, l)) (sym (append-nil told.1))
  rows-to n told (row ∷ more) [] e = absurd cc
  rows-to n told more ([] ∷ lines) e = blank-read n (Some told) lines ∙ rows-to (n + 1) told more lines e
  rows-to n told [] ((word ∷ words) ∷ lines) e = absurd cc
  rows-to n told (row ∷ more) ((word ∷ words) ∷ lines) e =
      let here : row_of (word ∷ words) ≡ Some row = cc in
      let left : map row_of (filter has_fields lines) ≡ map (λ r. Some r) more = cc in
      read-one edition row_of n (Some told) (word ∷ words) lines ∙ ap (then_read edition row_of n lines)
      (row-right edition row_of (Some told) told (told.0, told.1 ++ row ∷ []) (word ∷ words) words word row refl refl here refl)
      ∙ rows-to (n + 1) (told.0, told.1 ++ row ∷ []) more lines left ∙ ap (λ l. Ok (told.0, l)) (append_assoc told.1 (row ∷ []) more)

  text-to : (n : ℕ) (read : Contents R) (lines : List Line) (first : Line) (body : List Line) → filter has_fields lines ≡ first ∷ body →
      header_of edition first ≡ Some read.0 → map row_of body ≡ map (λ row. Some row) read.1 → read_from edition row_of n None lines ≡ Ok read
  text-to n read [] first body f h r = absurd cc
  text-to n read ([] ∷ lines) first body f h r = blank-read n None lines ∙ text-to (n + 1) read lines first body f h r
  text-to n read ((word ∷ words) ∷ lines) first body f h r =
      let line : word ∷ words ≡ first = cc in
      let rest : filter has_fields lines ≡ body = cc in
      read-one edition row_of n None (word ∷ words) lines ∙ ap (then_read edition row_of n lines)
      (header-right edition row_of None (read.0, []) (word ∷ words) words word read.0 refl refl (ap (header_of edition) line ∙ h) refl)
      ∙ rows-to (n + 1) (read.0, []) read.1 lines (ap (map row_of) rest ∙ r)

  pub texts-are-read-from : (n : ℕ) (lines : List Line) (read : Contents R) →
      (read_from edition row_of n None lines ≡ Ok read) ↔ IsText edition row_of lines read
  texts-are-read-from n lines read = (text-from n read lines, λ is. text-to n read lines is.first is.body is.lines_are is.nodes_are is.rows_are)
