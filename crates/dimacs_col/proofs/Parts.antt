-- A text, cut at its line feeds: where a part begins, and the parts before it and from it on.
use Rattle.std.proofs.Common.{◌≡◌, ◌<◌, ◌≤◌, ◌+◌, ◌++◌, ◌∷◌, [], ◌==◌, ◌∙◌, ℕ, suc, Bool, true, false, List, All}
use Rattle.std.proofs.Common.{arith, ap, append-nil, append_assoc, inl, inr, drop, get_or, length, map, refl, subst, sym, take}
use Rattle.std.proofs.Math.Seq.{drop-append-add, drop-cons, take-append-add}
use Rattle.std.proofs.lemmas.Bool.{eqb-true}
use Rattle.std.proofs.lemmas.List.{length-append, take-append-drop}
use Rattle.std.proofs.lemmas.List.Elements.{All-cons, All-nil}
use Rattle.std.proofs.lemmas.List.Splits.{slice_split_at}
use Rattle.std.specs.List.{onto_first, slice_split}
use Rattle.dimacs_col.specs.Split.{EndsLine}

abbrev pub is_feed : ℕ → Bool
is_feed byte = byte == 10

abbrev pub parts_of : List ℕ → List (List ℕ)
parts_of text = slice_split is_feed text

-- the parts, each with a line feed behind it
abbrev pub closed : List (List ℕ) → List ℕ
closed [] = []
closed (part ∷ parts) = (part ++ 10 ∷ []) ++ closed parts

pub closed-push : (parts : List (List ℕ)) (part : List ℕ) → length (closed (parts ++ part ∷ [])) ≡ length (closed parts) + (length part + 1)
closed-push [] part = omega (arith, length-append (part ++ 10 ∷ []) [], length-append part (10 ∷ []))
closed-push (first ∷ parts) part = omega (
  arith,
  closed-push parts part,
  length-append (first ++ 10 ∷ []) (closed (parts ++ part ∷ [])),
  length-append (first ++ 10 ∷ []) (closed parts),
)

-- a text of two parts or more: the first, a line feed, and the text of the others
record IsFirst (text first : List ℕ) (others : List (List ℕ)) : Type 0 where
  rest : List ℕ
  text_is : text ≡ first ++ 10 ∷ rest
  split_is : parts_of rest ≡ others
  plain : All (λ byte. is_feed byte ≡ false) first

first-cons : (x : ℕ) (xs q first : List ℕ) (others : List (List ℕ)) → is_feed x ≡ false → x ∷ q ≡ first → IsFirst xs q others → IsFirst (x ∷ xs) first others
first-cons x xs q first others t same is = record {
  rest = is.rest;
  text_is = ap (λ ys. x ∷ ys) is.text_is ∙ ap (λ ys. ys ++ 10 ∷ is.rest) same;
  split_is = is.split_is;
  plain = subst (All (λ byte. is_feed byte ≡ false)) same (All-cons (λ byte. is_feed byte ≡ false) x q t is.plain);
}

first-part : (text first second : List ℕ) (others : List (List ℕ)) → parts_of text ≡ first ∷ second ∷ others → IsFirst text first (second ∷ others)
first-part [] first second others e = absurd cc
first-part (x ∷ xs) first second others e = part-by (is_feed x) refl (λ q s. first-part xs q second others s)
  where
    part-on : (all : List (List ℕ)) → is_feed x ≡ false → parts_of xs ≡ all → onto_first x all ≡ first ∷ second ∷ others →
        ((q : List ℕ) → parts_of xs ≡ q ∷ second ∷ others → IsFirst xs q (second ∷ others)) → IsFirst (x ∷ xs) first (second ∷ others)
    part-on [] t s o more = absurd cc
    part-on (q ∷ qs) t s o more =
        let head : x ∷ q ≡ first = cc in
        let tail : qs ≡ second ∷ others = cc in
        first-cons x xs q first (second ∷ others) t head (more q (s ∙ ap (λ ps. q ∷ ps) tail))

    part-by : (b : Bool) → is_feed x ≡ b → ((q : List ℕ) → parts_of xs ≡ q ∷ second ∷ others → IsFirst xs q (second ∷ others)) →
        IsFirst (x ∷ xs) first (second ∷ others)
    part-by true t more =
        let parts : [] ∷ parts_of xs ≡ first ∷ second ∷ others = (rw t at e) in
        let none : [] ≡ first = cc in
        let is : x ≡ 10 = eqb-true x 10 t in
        record {
          rest = xs;
          text_is = ap (λ b. b ∷ xs) is ∙ ap (λ ys. ys ++ 10 ∷ xs) none;
          split_is = cc;
          plain = subst (All (λ byte. is_feed byte ≡ false)) none (All-nil (λ byte. is_feed byte ≡ false));
        }
    part-by false t more = let parts : onto_first x (parts_of xs) ≡ first ∷ second ∷ others = (rw t at e) in part-on (parts_of xs) t refl parts more

-- the part that a text begins with is no longer than the text
first-length : (text first : List ℕ) (others : List (List ℕ)) → parts_of text ≡ first ∷ others → length first ≤ length text
first-length [] first others e = let none : [] ≡ first = cc in omega (arith, ap length none)
first-length (x ∷ xs) first others e = length-by (is_feed x) refl (λ q qs s. first-length xs q qs s)
  where
    length-on : (all : List (List ℕ)) → parts_of xs ≡ all → onto_first x all ≡ first ∷ others → ((q : List ℕ) (qs : List (List ℕ)) → parts_of xs ≡ q ∷ qs →
        length q ≤ length xs) → length first ≤ length (x ∷ xs)
    length-on [] s o more = let one : x ∷ [] ≡ first = cc in omega (arith, ap length one)
    length-on (q ∷ qs) s o more = let head : x ∷ q ≡ first = cc in omega (arith, ap length head, more q qs s)

    length-by : (b : Bool) → is_feed x ≡ b → ((q : List ℕ) (qs : List (List ℕ)) → parts_of xs ≡ q ∷ qs → length q ≤ length xs) → length first ≤ length (x ∷ xs)
    length-by true t more =
        let parts : [] ∷ parts_of xs ≡ first ∷ others = (rw t at e) in
        let none : [] ≡ first = cc in omega (arith, ap length none)
    length-by false t more = let parts : onto_first x (parts_of xs) ≡ first ∷ others = (rw t at e) in length-on (parts_of xs) refl parts more

-- a text cut where a part begins
pub record IsCut (text : List ℕ) (before : List (List ℕ)) (part : List ℕ) (after : List (List ℕ)) : Type 0 where
  pub within : length (closed before) + length part ≤ length text
  pub front : parts_of (take (length (closed before)) text) ≡ before ++ [] ∷ []
  pub back : parts_of (drop (length (closed before)) text) ≡ part ∷ after
  pub ends : EndsLine (take (length (closed before)) text)

ends-behind : (first rest : List ℕ) → EndsLine rest → EndsLine ((first ++ 10 ∷ []) ++ rest)
ends-behind first rest (inl none) = inr (first, ap (λ t. (first ++ 10 ∷ []) ++ t) none ∙ append-nil (first ++ 10 ∷ []))
ends-behind first rest (inr (before, is)) =
    inr ((first ++ 10 ∷ []) ++ before, ap (λ t. (first ++ 10 ∷ []) ++ t) is ∙ sym (append_assoc (first ++ 10 ∷ []) before (10 ∷ [])))

some-part : (before : List (List ℕ)) (part : List ℕ) (after : List (List ℕ)) → (first : List ℕ) × (others : List (List ℕ)) ×
    (before ++ part ∷ after ≡ first ∷ others)
some-part [] part after = (part, after, refl)
some-part (first ∷ before) part after = (first, before ++ part ∷ after, refl)

pub text-cut : (text : List ℕ) (before : List (List ℕ)) (part : List ℕ) (after : List (List ℕ)) → parts_of text ≡ before ++ part ∷ after →
    IsCut text before part after
text-cut text [] part after e = record { within = omega (arith, first-length text part after e); front = refl; back = e; ends = inl refl }
text-cut text (first ∷ before) part after e =
    let some = some-part before part after in
    let is = first-part text first some.0 some.1 (e ∙ ap (λ ps. first ∷ ps) some.2) in
    let cut = text-cut is.rest before part after (is.split_is ∙ sym some.2) in
    let front = first ++ 10 ∷ [] in
    let text_is : text ≡ front ++ is.rest = is.text_is ∙ sym (append_assoc first (10 ∷ []) is.rest) in
    let size : length (closed (first ∷ before)) ≡ length front + length (closed before) = length-append front (closed before) in
    let all : length text ≡ length front + length is.rest = ap length text_is ∙ length-append front is.rest in
    let taken : take (length (closed (first ∷ before))) text ≡ front ++ take (length (closed before)) is.rest = ap (λ k. take k text) size ∙
    ap (λ t. take (length front + length (closed before)) t) text_is ∙ take-append-add front is.rest (length (closed before)) in
    let dropped : drop (length (closed (first ∷ before))) text ≡ drop (length (closed before)) is.rest = ap (λ k. drop k text) size ∙
    ap (λ t. drop (length front + length (closed before)) t) text_is ∙ drop-append-add front is.rest (length (closed before)) in
    record {
      within = omega (arith, size, all, cut.within);
      front = ap parts_of (taken ∙ append_assoc first (10 ∷ []) (take (length (closed before)) is.rest)) ∙
          slice_split_at is_feed first 10 (take (length (closed before)) is.rest) is.plain refl ∙ ap (λ ps. first ∷ ps) cut.front;
      back = ap parts_of dropped ∙ cut.back;
      ends = subst EndsLine (sym taken) (ends-behind first (take (length (closed before)) is.rest) cut.ends);
    }

-- the parts round the one at k
pub parts-around : {A : Type 0} (v : A → List ℕ) (all : List (List ℕ)) (xs : List A) (x : A) → (map v xs ≡ take (length xs) all) × (length xs < length all) ×
    (v x ≡ get_or all (length xs) (v x)) → all ≡ map v xs ++ v x ∷ drop (suc (length xs)) all
parts-around v all xs x h =
    sym (take-append-drop (length xs) all)
    ∙ ap (λ rest. take (length xs) all ++ rest) (drop-cons all (length xs) (v x) h.1 ∙ ap (λ p. p ∷ drop (suc (length xs)) all) (sym h.2))
    ∙ ap (λ front. front ++ v x ∷ drop (suc (length xs)) all) (sym h.0)
