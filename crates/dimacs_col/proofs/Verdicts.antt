-- The verdict of a line, from what the reader finds on it.
use Rattle.std.proofs.Common.{◌≡◌, ◌<◌, ◌≤◌, ◌+◌, ◌++◌, ◌||◌, ◌&&◌, ◌==◌, not, nat_lt, ℕ, Bool, true, false, Option, Some, None, List, [], ◌∷◌, refl, ap}
use Rattle.std.proofs.Common.{arith, drop}
use Rattle.std.proofs.lemmas.Bool.Decides.{nat_tests}
use Rattle.graph_limits.specs.declared.limits.TheConstants.{MAX_NODES, MAX_EDGES, MAX_CHANNEL, MAX_BARS}
use Rattle.dimacs_col.specs.Lines.{Line, is_channel, is_identifier, number_of, field_at}
use Rattle.dimacs_col.specs.Kinds.{kind_of_word, kind_of, is_format}
use Rattle.dimacs_col.specs.Reading.{verdict, first_of, nodes_of, edge_count, has_id, bar_count, number_after}
use Rattle.std.specs.List.{slice_get}
use Rattle.std.proofs.lemmas.List.{get_or-drop}
use Rattle.std.proofs.lemmas.Bool.{le-ltb}
use Rattle.std.specs.Option.{is_some}
use Rattle.dimacs_col.specs.State.{kept, kept_number}
use Rattle.dimacs_col.specs.declared.kind.Kind.TheVariants.{Skipped, Problem, Edge, Identifier, Bar, Unknown}
use Rattle.dimacs_col.specs.declared.fault.ColFault.TheVariants.{VertexRange, SelfLoop, TooLarge, UnknownLine, NumberRange, IdTwice, ChannelRange, TooManyBars}

pub verdict-skipped : (before : List Line) (line : Line) → kind_of line ≡ Skipped → verdict before line ≡ None
unfolding verdict
verdict-skipped before line e = rw e refl

pub verdict-unknown : (before : List Line) (line : Line) → kind_of line ≡ Unknown → verdict before line ≡ Some (UnknownLine (number_after before))
unfolding verdict
verdict-unknown before line e = rw e refl

-- what is kept of a number
pub record KeptNumber (field : List ℕ) (v : ℕ) : Type 0 where
  pub number : ℕ
  pub is : number_of field ≡ Some number
  pub kept_is : v ≡ kept number

pub kept-from : (field : List ℕ) (v : ℕ) → kept_number field ≡ Some v → KeptNumber field v
kept-from field v e = from-by (number_of field) refl
  where
    from-by : (o : Option ℕ) → number_of field ≡ o → KeptNumber field v
    from-by None o = let none : None ≡ Some v = (rw o at e) in absurd cc
    from-by (Some n) o = let some : Some (kept n) ≡ Some v = (rw o at e) in record { number = n; is = o; kept_is = cc }

abbrev pub is_outside : ℕ → ℕ → Bool
is_outside nodes v = not (nat_lt 0 v && not (nat_lt nodes v))

pub verdict-edge : (before : List Line) (word : List ℕ) (fields : Line) (nodes m n : ℕ) (b1 b2 b3 : Bool) → kind_of_word word ≡ Edge →
    nodes_of before ≡ Some nodes → number_of (field_at fields 0) ≡ Some m → number_of (field_at fields 1) ≡ Some n →
    (is_outside nodes m || is_outside nodes n) ≡ b1 → (m == n) ≡ b2 → nat_lt MAX_EDGES (edge_count (before ++ (word ∷ fields) ∷ [])) ≡ b3 →
    verdict before (word ∷ fields) ≡ first_of ((b1, VertexRange (number_after before)) ∷ (b2, SelfLoop (number_after before)) ∷ (
      b3,
      TooLarge (number_after before),
    ) ∷ [])
unfolding verdict
verdict-edge before word fields nodes m n b1 b2 b3 k o p q e1 e2 e3 = simp (k, o, p, q, e1, e2, e3)

pub verdict-identifier : (before : List Line) (word : List ℕ) (fields : Line) (nodes m n : ℕ) (b1 b2 b3 : Bool) → kind_of_word word ≡ Identifier →
    nodes_of before ≡ Some nodes → number_of (field_at fields 0) ≡ Some m → number_of (field_at fields 1) ≡ Some n →
    is_outside nodes m ≡ b1 → is_identifier n ≡ b2 → has_id before m ≡ b3 →
    verdict before (word ∷ fields) ≡ first_of ((b1, VertexRange (number_after before)) ∷ (not b2, NumberRange (number_after before)) ∷ (
      b3,
      IdTwice (number_after before),
    ) ∷ [])
unfolding verdict
verdict-identifier before word fields nodes m n b1 b2 b3 k o p q e1 e2 e3 = simp (k, o, p, q, e1, e2, e3)

pub verdict-bar : (before : List Line) (word : List ℕ) (fields : Line) (nodes m n : ℕ) (b1 b2 b3 : Bool) → kind_of_word word ≡ Bar →
    nodes_of before ≡ Some nodes → number_of (field_at fields 0) ≡ Some m → number_of (field_at fields 1) ≡ Some n →
    is_outside nodes m ≡ b1 → is_channel n ≡ b2 → nat_lt MAX_BARS (bar_count (before ++ (word ∷ fields) ∷ []) m) ≡ b3 →
    verdict before (word ∷ fields) ≡ first_of ((b1, VertexRange (number_after before)) ∷ (not b2, ChannelRange (number_after before)) ∷ (
      b3,
      TooManyBars (number_after before),
    ) ∷ [])
unfolding verdict
verdict-bar before word fields nodes m n b1 b2 b3 k o p q e1 e2 e3 = simp (k, o, p, q, e1, e2, e3)

-- what is kept of a channel is in range just as the number is
pub channel-outside : (n w : ℕ) → w ≡ kept n → (0 < w → w ≤ MAX_CHANNEL → ⊥) → is_channel n ≡ false
channel-outside n w k bad = grind (arith, nat_tests)

pub channel-inside : (w : ℕ) → 0 < w → w ≤ MAX_CHANNEL → is_channel w ≡ true
channel-inside w low high = grind (arith, nat_tests)

pub kept-channel : (n w : ℕ) → w ≡ kept n → w ≤ MAX_CHANNEL → n ≡ w
kept-channel n w k high = grind arith

pub outside-one : (nodes m v : ℕ) → nodes ≤ MAX_NODES → v ≡ kept m → (0 < v → v ≤ nodes → ⊥) → is_outside nodes m ≡ true
outside-one nodes m v small k bad = grind (arith, nat_tests)

pub inside-one : (nodes m : ℕ) → 0 < m → m ≤ nodes → is_outside nodes m ≡ false
inside-one nodes m a b = grind (arith, nat_tests)

pub kept-inside : (nodes m v : ℕ) → nodes ≤ MAX_NODES → v ≡ kept m → v ≤ nodes → m ≡ v
kept-inside nodes m v small k h = grind arith

pub inside : (nodes m n : ℕ) → 0 < m → m ≤ nodes → 0 < n → n ≤ nodes → (is_outside nodes m || is_outside nodes n) ≡ false
inside nodes m n a b c d = grind (arith, nat_tests)

pub no-first : (line : Line) → slice_get line 0 ≡ None → kind_of line ≡ Skipped
no-first [] e = refl
no-first (f ∷ fs) e = absurd cc

pub with-first : (line : Line) (word : List ℕ) → slice_get line 0 ≡ Some word → kind_of line ≡ kind_of_word word
with-first [] word e = absurd cc
with-first (f ∷ fs) word e = let h : f ≡ word = cc in ap kind_of_word h

pub field_at-drop : (line : Line) (m n : ℕ) → field_at (drop m line) n ≡ field_at line (m + n)
field_at-drop line m n = get_or-drop m line n []

pub verdict-problem : (before : List Line) (word : List ℕ) (fields : Line) (m n : ℕ) → kind_of_word word ≡ Problem → nodes_of before ≡ None →
    is_format (field_at fields 0) ≡ true → number_of (field_at fields 1) ≡ Some m → number_of (field_at fields 2) ≡ Some n → m ≤ MAX_NODES →
    verdict before (word ∷ fields) ≡ None
unfolding verdict
verdict-problem before word fields m n k o f p q small = simp (k, o, f, p, q, le-ltb MAX_NODES m small)

pub none-from : (o : Option ℕ) → is_some o ≡ false → o ≡ None
none-from None e = refl
none-from (Some n) e = absurd cc

pub outside-any : (nodes m n v w : ℕ) → nodes ≤ MAX_NODES → v ≡ kept m → w ≡ kept n → (0 < v → v ≤ nodes → 0 < w → w ≤ nodes → ⊥) →
    (is_outside nodes m || is_outside nodes n) ≡ true
outside-any nodes m n v w small a b bad = grind (arith, nat_tests)
