-- Which texts have no line feed, and which are lines: numbers have none (no-feed-decimal), and names neither (no-feed-name);
-- a row is a line (line-row), and so is a line behind words without one (line-behind); lines one after the other are lines
-- (lines-append, lines-each).
use Rattle.std.proofs.Common.{◌≡◌, ◌≤◌, ◌+◌, ◌-◌, ◌/◌, ◌%◌, ◌==◌, ◌&&◌, ◌||◌, ◌∙◌, ℕ, zero, suc, Bool, true, false, cond, length, List, [], ◌∷◌, ◌++◌, map}
use Rattle.std.proofs.Common.{flat_map}
use Rattle.std.proofs.Common.{append-nil, append_assoc, ap, arith, codes, inl, inr, ltb, ne_eqb, refl, subst, sym}
use Rattle.std.proofs.lemmas.Bool.{and_parts}
use Rattle.std.specs.Fmt.{decimal, digit_glyph, digits, digits_onto}
use Rattle.std.specs.List.{join_with_byte}
use Rattle.std.specs.Prelude.{slice_index}
use Rattle.number_rows.specs.Feeds.{AreLines, HasNoFeed, IsLine, has_feed}
use Rattle.number_rows.specs.Names.{IsName, are_joined, is_small}
use Rattle.number_rows.specs.Row.{numbered, row}

-- ---- texts without a line feed
either : (t u v : Bool) → (t || u) ≡ false → (u ≡ false → v ≡ false) → (t || v) ≡ false
either true u v none more = absurd cc
either false u v none more = more none

pub no-feed-append : (a b : List ℕ) → HasNoFeed a → HasNoFeed b → HasNoFeed (a ++ b)
no-feed-append [] b none other = other
no-feed-append (c ∷ cs) b none other =
    either (c == 10) (has_feed cs) (has_feed (cs ++ b)) none (λ left. no-feed-append cs b left other)

pub no-feed-cons : (c : ℕ) (cs : List ℕ) → (c ≡ 10 → ⊥) → HasNoFeed cs → HasNoFeed (c ∷ cs)
no-feed-cons c cs isnt none = rw (ne_eqb c 10 isnt) none

glyph-high : (d : ℕ) → 48 ≤ digit_glyph false d
glyph-high d = by (ltb d 10)
  where
    by : (small : Bool) → 48 ≤ cond small (48 + d) (87 + d)
    by true = omega arith
    by false = omega arith

no-feed-onto : (k n : ℕ) (acc : List ℕ) → HasNoFeed acc → HasNoFeed (digits_onto k 10 false n acc)
no-feed-onto zero n acc none = none
no-feed-onto (suc k) n acc none =
    let glyph : ℕ = digit_glyph false (n % 10) in
    let more : HasNoFeed (glyph ∷ acc) = no-feed-cons glyph acc (λ e. omega (arith, e, glyph-high (n % 10))) none in
    by (n / 10 == 0) (glyph ∷ acc) (digits_onto k 10 false (n / 10) (glyph ∷ acc)) more (no-feed-onto k (n / 10) (glyph ∷ acc) more)
  where
    by : (last : Bool) (xs ys : List ℕ) → HasNoFeed xs → HasNoFeed ys → HasNoFeed (cond last xs ys)
    by true xs ys p q = p
    by false xs ys p q = q

pub no-feed-decimal : (n : ℕ) → HasNoFeed (decimal n)
unfolding digits
no-feed-decimal n = no-feed-onto 64 n [] refl

pub no-feed-numbered : (words : List ℕ) (n : ℕ) → HasNoFeed words → HasNoFeed (numbered words n)
no-feed-numbered words n none = no-feed-append words (decimal n) none (no-feed-decimal n)

no-feed-joined : (numbers : List ℕ) → HasNoFeed (join_with_byte 32 (map decimal numbers))
no-feed-joined [] = refl
no-feed-joined (n ∷ []) = no-feed-decimal n
no-feed-joined (n ∷ m ∷ numbers) =
    no-feed-append (decimal n) (32 ∷ join_with_byte 32 (map decimal (m ∷ numbers))) (no-feed-decimal n)
    (no-feed-joined (m ∷ numbers))

-- ---- names
no-feed-of : (c : ℕ) → (is_small c || c == 45) ≡ true → c ≡ 10 → ⊥
no-feed-of c is e = let none : (is_small c || c == 45) ≡ false = rw e refl in absurd cc

no-feed-letters : (text : List ℕ) → are_joined text ≡ true → HasNoFeed text
no-feed-letters [] are = refl
no-feed-letters (c ∷ cs) are =
    let parts : ((is_small c || c == 45) ≡ true) × (are_joined cs ≡ true) = and_parts (is_small c || c == 45) (are_joined cs) are in
    no-feed-cons c cs (no-feed-of c parts.0) (no-feed-letters cs parts.1)

pub no-feed-name : (text : List ℕ) → IsName text → HasNoFeed text
no-feed-name text is =
    let some : Bool = ltb 0 (length text) in
    let ends : Bool = is_small (slice_index text 0) && is_small (slice_index text (length text - 1)) in
    no-feed-letters text (and_parts some (are_joined text) (and_parts (some && are_joined text) ends is).0).1

-- ---- lines
pub line-row : (numbers : List ℕ) → IsLine (row numbers)
line-row numbers = (join_with_byte 32 (map decimal numbers), no-feed-joined numbers, refl)

pub line-end : IsLine (codes "\n")
line-end = ([], refl, refl)

pub line-behind : (words line : List ℕ) → HasNoFeed words → IsLine line → IsLine (words ++ line)
line-behind words line none (rest, left, is) =
    (words ++ rest, no-feed-append words rest none left, ap (λ t. words ++ t) is ∙ sym (append_assoc words rest (10 ∷ [])))

pub are-lines : (text : List ℕ) → IsLine text → AreLines text
are-lines text (words, none, is) = inr (words, is)

pub lines-append : (a b : List ℕ) → AreLines a → AreLines b → AreLines (a ++ b)
lines-append a b first (inl none) = subst (λ t. AreLines (a ++ t)) (sym none) (subst AreLines (sym (append-nil a)) first)
lines-append a b first (inr (before, is)) = inr (a ++ before, ap (λ t. a ++ t) is ∙ sym (append_assoc a before (10 ∷ [])))

pub lines-each : (f : ℕ → List ℕ) (xs : List ℕ) → ((x : ℕ) → AreLines (f x)) → AreLines (flat_map f xs)
lines-each f [] each = inl refl
lines-each f (x ∷ xs) each = lines-append (f x) (flat_map f xs) (each x) (lines-each f xs each)
