-- The text of rows while they are written, in either edition: a beginning and the lines of the first rows, each of which can be
-- read. No row is written yet (none-written), one more is (one-written), and at the end all are (all-written).
use Rattle.std.proofs.Common.{◌≡◌, ◌<◌, ◌≤◌, ◌+◌, ◌++◌, ◌∷◌, [], ◌∙◌, ℕ, List, All, ap, append-nil, flat_map, get_or, length, subst, sym, take}
use Rattle.std.proofs.lemmas.List.{flat_map_more, take_all, take_more}
use Rattle.std.proofs.lemmas.List.Elements.{All-more, All-nil}

pub record AreWritten {R : Type 0} (line_of : R → List ℕ) (IsReadable : R → Type 0) (before : List ℕ) (rows : List R) (text : List ℕ) : Type 0 where
  pub text_is : text ≡ before ++ flat_map line_of rows
  pub readable : All IsReadable rows

module _ {R : Type 0} {line_of : R → List ℕ} {IsReadable : R → Type 0} {before : List ℕ} where
  pub none-written : (text : List ℕ) → text ≡ before → AreWritten line_of IsReadable before [] text
  none-written text is = record { text_is = is ∙ sym (append-nil before); readable = All-nil IsReadable }

  module _ (rows : List R) (i : ℕ) (text : List ℕ) (so_far : AreWritten line_of IsReadable before (take i rows) text) where
    pub one-written : (row : R) (next : List ℕ) → i < length rows → row ≡ get_or rows i row → next ≡ text ++ line_of row → IsReadable row →
        AreWritten line_of IsReadable before (take (i + 1) rows) next
    one-written row next more is written readable = record {
      text_is = written
          ∙ ap (λ t. t ++ line_of row) so_far.text_is
          ∙ flat_map_more line_of before (take i rows) row
          ∙ ap (λ l. before ++ flat_map line_of l) (ap (λ x. take i rows ++ x ∷ []) is ∙ sym (take_more rows i row more));
      readable = All-more IsReadable rows i row more so_far.readable (subst IsReadable is readable);
    }

    pub all-written : length rows ≤ i → AreWritten line_of IsReadable before rows text
    all-written end = subst (λ l. AreWritten line_of IsReadable before l text) (take_all i rows end) so_far
