-- Words that are parted by one space are the fields of their line, and such lines the lines of their text.
use Rattle.std.proofs.Common.{◌≡◌, ◌<◌, ◌≤◌, ◌-◌, ◌++◌, ◌∷◌, [], ◌==◌, ◌∙◌, ℕ, false, List, All, arith, ap, cond, get_or, length, map, refl, take}
use Rattle.std.proofs.lemmas.Bool.{lt-ltb, ne_eqb}
use Rattle.std.proofs.lemmas.List.{length-append}
use Rattle.std.proofs.lemmas.List.Elements.{All-append, All-cons, All-get_or, All-head, All-tail, All-weaker}
use Rattle.std.proofs.lemmas.List.Splits.{slice_split_at, slice_split_none}
use Rattle.std.specs.List.{filter, slice_split}
use Rattle.std.specs.Str.Lines.{strip_carriage_return}
use Rattle.dimacs_col.specs.Lines.{fields_of, is_blank, is_field, line_of, lines_of}

-- a byte that shows
abbrev pub IsSeen : ℕ → Type 0
IsSeen x = 33 ≤ x

abbrev pub IsWord : List ℕ → Type 0
IsWord w = (0 < length w) × All IsSeen w

abbrev pub spaced : List ℕ → List (List ℕ) → List ℕ
spaced w [] = w
spaced w (x ∷ xs) = w ++ 32 ∷ spaced x xs

no-blank : (w : List ℕ) → All IsSeen w → All (λ x. is_blank x ≡ false) w
no-blank w h = All-weaker IsSeen (λ x. is_blank x ≡ false) seen w h
  where
    seen : (x : ℕ) → IsSeen x → is_blank x ≡ false
    seen x d = let space : (x == 32) ≡ false = ne_eqb x 32 (omega arith) in let tab : (x == 9) ≡ false = ne_eqb x 9 (omega arith) in rw (space, tab) refl

fields-spaced : (w : List ℕ) (ws : List (List ℕ)) → IsWord w → All IsWord ws → fields_of (spaced w ws) ≡ w ∷ ws
unfolding fields_of
fields-spaced w [] h hs = ap (filter is_field) (slice_split_none is_blank w (no-blank w h.1)) ∙ rw (lt-ltb 0 (length w) h.0) refl
fields-spaced w (x ∷ xs) h hs =
    ap (filter is_field) (slice_split_at is_blank w 32 (spaced x xs) (no-blank w h.1) refl)
    ∙ rw (lt-ltb 0 (length w) h.0) (ap (λ l. w ∷ l) (fields-spaced x xs (All-head IsWord x xs hs) (All-tail IsWord x xs hs)))

-- no line feed and no carriage return stands in it
abbrev IsPlain : ℕ → Type 0
IsPlain x = 32 ≤ x

plain-word : (w : List ℕ) → All IsSeen w → All IsPlain w
plain-word w h = All-weaker IsSeen IsPlain (λ x seen. omega (arith, seen)) w h

plain-spaced : (w : List ℕ) (ws : List (List ℕ)) → IsWord w → All IsWord ws → All IsPlain (spaced w ws)
plain-spaced w [] h hs = plain-word w h.1
plain-spaced w (x ∷ xs) h hs =
    All-append IsPlain w (32 ∷ spaced x xs) (plain-word w h.1)
    (All-cons IsPlain 32 (spaced x xs) (omega arith) (plain-spaced x xs (All-head IsWord x xs hs) (All-tail IsWord x xs hs)))

some-spaced : (w : List ℕ) (ws : List (List ℕ)) → IsWord w → 0 < length (spaced w ws)
some-spaced w [] h = h.0
some-spaced w (x ∷ xs) h = omega (arith, h.0, length-append w (32 ∷ spaced x xs))

kept-spaced : (w : List ℕ) (ws : List (List ℕ)) → IsWord w → All IsWord ws → strip_carriage_return (spaced w ws) ≡ spaced w ws
kept-spaced w ws h hs =
    let text = spaced w ws in
    let some : length text - 1 < length text = omega (arith, some-spaced w ws h) in
    let high : 32 ≤ get_or text (length text - 1) 0 = All-get_or IsPlain text (length text - 1) 0 some (plain-spaced w ws h hs) in
    let last : (get_or text (length text - 1) 0 == 13) ≡ false = ne_eqb (get_or text (length text - 1) 0) 13 (omega (arith, high)) in
    ap (λ b. cond b (take (length text - 1) text) text) last

line-spaced : (w : List ℕ) (ws : List (List ℕ)) → IsWord w → All IsWord ws → line_of (spaced w ws) ≡ w ∷ ws
line-spaced w ws h hs = ap fields_of (kept-spaced w ws h hs) ∙ fields-spaced w ws h hs

-- a line of words before a text
pub lines-spaced : (w : List ℕ) (ws : List (List ℕ)) (rest : List ℕ) → IsWord w → All IsWord ws →
    lines_of (spaced w ws ++ 10 ∷ rest) ≡ (w ∷ ws) ∷ lines_of rest
unfolding lines_of
lines-spaced w ws rest h hs =
    let plain = All-weaker IsPlain (λ x. (x == 10) ≡ false) (λ x high. ne_eqb x 10 (omega (arith, high))) (spaced w ws) (plain-spaced w ws h hs) in
    ap (map line_of) (slice_split_at (λ byte. byte == 10) (spaced w ws) 10 rest plain refl)
    ∙ ap (λ l. l ∷ map line_of (slice_split (λ byte. byte == 10) rest)) (line-spaced w ws h hs)
