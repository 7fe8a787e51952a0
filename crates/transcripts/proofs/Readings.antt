-- What is known after one more line of a transcript, of either edition.
use Rattle.std.proofs.Common.{◌≡◌, ◌+◌, ◌++◌, ◌∷◌, [], ◌∙◌, ℕ, IfErr, Option, Some, None, Result, Ok, Err, List, ap, refl, sym}
use Rattle.dimacs_col.specs.Lines.{Line}
use Rattle.transcripts.specs.EntryLines.{header_of}
use Rattle.transcripts.specs.Reader.{IsSyntaxFault}
use Rattle.transcripts.specs.Reading.{Contents, IsFaultOf, known_after, read_at_end, read_from}
use Rattle.transcripts.specs.declared.fault.TextFault.{TextFault}
use Rattle.transcripts.specs.declared.fault.TextFault.TheVariants.{Memory, Syntax}

module _ {R : Type 0} (edition : List ℕ) (row_of : Line → Option R) where
  -- ---- one line
  pub known-blank : (known : Option (Contents R)) (line : Line) → line ≡ [] → known_after edition row_of known line ≡ Some known
  unfolding known_after
  known-blank known line e = rw e refl

  pub row-wrong : (known : Option (Contents R)) (told : Contents R) (line words : Line) (word : List ℕ) → known ≡ Some told → line ≡ word ∷ words →
      row_of (word ∷ words) ≡ None → known_after edition row_of known line ≡ None
  unfolding known_after
  row-wrong known told line words word k e r = rw (k, e, r) refl

  pub row-right : (known : Option (Contents R)) (told next : Contents R) (line words : Line) (word : List ℕ) (row : R) → known ≡ Some told →
      line ≡ word ∷ words → row_of (word ∷ words) ≡ Some row → next ≡ (told.0, told.1 ++ row ∷ []) →
      known_after edition row_of known line ≡ Some (Some next)
  unfolding known_after
  row-right known told next line words word row k e r n = rw (k, e, r, n) refl

  pub header-wrong : (known : Option (Contents R)) (line words : Line) (word : List ℕ) → known ≡ None → line ≡ word ∷ words →
      header_of edition (word ∷ words) ≡ None → known_after edition row_of known line ≡ None
  unfolding known_after
  header-wrong known line words word k e h = rw (k, e, h) refl

  pub header-right : (known : Option (Contents R)) (next : Contents R) (line words : Line) (word : List ℕ) (nodes : ℕ) → known ≡ None →
      line ≡ word ∷ words → header_of edition (word ∷ words) ≡ Some nodes → next ≡ (nodes, []) → known_after edition row_of known line ≡ Some (Some next)
  unfolding known_after
  header-right known next line words word nodes k e h n = rw (k, e, h, n) refl

  -- ---- all lines
  abbrev pub then_read : ℕ → List Line → Option (Option (Contents R)) → Result (Contents R) ℕ
  then_read n lines known = elim known [ None ↦ Err n | Some next ↦ read_from edition row_of (n + 1) next lines ]

  pub read-one : (n : ℕ) (known : Option (Contents R)) (line : Line) (lines : List Line) →
      read_from edition row_of n known (line ∷ lines) ≡ then_read n lines (known_after edition row_of known line)
  unfolding read_from
  read-one n known line lines = refl

  -- a line more: the whole is the reading of the lines behind it, from what is known then; or this line is wrong
  module _ (whole : Result (Contents R) ℕ) (n k : ℕ) (known : Option (Contents R)) (left behind : List Line) (line : Line)
      (is : whole ≡ read_from edition row_of (n + 1) known left) (head : left ≡ line ∷ behind) (number : k ≡ n + 1) where
    parted : whole ≡ then_read (n + 1) behind (known_after edition row_of known line)
    parted = is ∙ ap (read_from edition row_of (n + 1) known) head ∙ read-one (n + 1) known line behind

    pub line-read : (m : ℕ) (next : Option (Contents R)) → known_after edition row_of known line ≡ Some next → m ≡ k →
        whole ≡ read_from edition row_of (m + 1) next behind
    line-read m next right e =
        parted ∙ ap (then_read (n + 1) behind) right ∙ ap (λ j. read_from edition row_of (j + 1) next behind) (sym (e ∙ number))

    pub line-refused : known_after edition row_of known line ≡ None → whole ≡ Err k
    line-refused wrong = parted ∙ ap (then_read (n + 1) behind) wrong ∙ ap Err (sym number)

  -- at the end no line is left
  pub read-end : (start : ℕ) (lines : List Line) (n : ℕ) (known : Option (Contents R)) (left : List Line) → left ≡ [] →
      read_from edition row_of start None lines ≡ read_from edition row_of n known left → read_from edition row_of start None lines ≡ read_at_end known
  unfolding read_from
  read-end start lines n known left none e = e ∙ ap (read_from edition row_of n known) none

  -- ---- faults
  pub fault-line : (reading : Result (Contents R) ℕ) (n : ℕ) (wrong : Type 0) (fault : TextFault) → (wrong → reading ≡ Err n) →
      IsSyntaxFault wrong n fault → IsFaultOf reading fault
  fault-line reading n wrong Memory told is = tt
  fault-line reading n wrong (Syntax m) told is = told is.0 ∙ ap Err (sym is.1)

  pub fault-end : {A : Type 0} (reading : Result (Contents R) ℕ) (n : ℕ) (wrong : Type 0) (r : Result A TextFault) → (wrong → reading ≡ Err n) →
      IfErr r (IsSyntaxFault wrong n) → IfErr r (IsFaultOf reading)
  fault-end reading n wrong (Ok a) told is = tt
  fault-end reading n wrong (Err fault) told is = fault-line reading n wrong fault told is
