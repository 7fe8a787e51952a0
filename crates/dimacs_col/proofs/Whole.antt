-- From the lines so far to the lines of the text.
use Rattle.std.proofs.Common.{◌≡◌, ◌<◌, ◌++◌, suc, zero, ℕ, Some, None, Option, List, [], ◌∷◌, length, take, drop, get_or, refl, sym, ◌∙◌, ap, arith, map}
use Rattle.std.specs.Iterator.{Yields}
use Rattle.std.proofs.lemmas.Iterator.{YieldsList}
use Rattle.std.proofs.lemmas.Iterator.Consumers.{YieldsList-end, YieldsList-turn, YieldsList-so_far}
use Rattle.dimacs_col.specs.Lines.{Line, line_of}
use Rattle.dimacs_col.specs.Reading.{AllGood, IsFault, IsFirstFault, verdict}
use Rattle.dimacs_col.specs.State.{IsVerdict}
use Rattle.dimacs_col.specs.declared.fault.ColFault.{ColFault}
use Rattle.dimacs_col.specs.declared.fault.ColFault.TheVariants.{NoProblem, SecondProblem, EdgeBeforeProblem, BadField, VertexRange, SelfLoop, TooLarge}
use Rattle.dimacs_col.specs.declared.fault.ColFault.TheVariants.{UnknownLine, EarlyLine, NumberRange, IdTwice, ChannelRange, TooManyBars, Memory}

pub map-twice : {A B C : Type 0} (f : B → C) (g : A → B) (xs : List A) → map f (map g xs) ≡ map (λ x. f (g x)) xs
map-twice f g [] = refl
map-twice f g (x ∷ xs) = ap (λ ys. f (g x) ∷ ys) (map-twice f g xs)

pub length-mapped : {A B : Type 0} (f : A → B) (xs : List A) → length (map f xs) ≡ length xs
length-mapped f [] = refl
length-mapped f (x ∷ xs) = ap suc (length-mapped f xs)

-- a list round its element at n
pub around : (f : List ℕ → Line) (all : List (List ℕ)) (n : ℕ) (x : List ℕ) → n < length all → x ≡ get_or all n x →
    map f all ≡ map f (take n all) ++ f x ∷ map f (drop (suc n) all)
around f [] n x h e = absurd (omega arith)
around f (y ∷ ys) zero x h e = let is : x ≡ y = e in rw is refl
around f (y ∷ ys) (suc n) x h e = ap (λ zs. f y ∷ zs) (around f ys n x (omega arith) e)

first-fault : (lines before : List Line) (line : Line) (after : List Line) (fault : ColFault) → lines ≡ before ++ line ∷ after → AllGood before →
    verdict before line ≡ Some fault → IsFirstFault lines fault
first-fault lines before line after fault place good told =
    record { before = before; line = line; after = after; place = place; good = good; told = told }

pub fault-told : (lines before : List Line) (line : Line) (after : List Line) (fault : ColFault) → lines ≡ before ++ line ∷ after → AllGood before →
    IsVerdict fault (verdict before line) → IsFault lines fault
fault-told lines before line after Memory place good told = tt
fault-told lines before line after NoProblem place good told = absurd told
fault-told lines before line after (SecondProblem n) place good told = first-fault lines before line after (SecondProblem n) place good told
fault-told lines before line after (EdgeBeforeProblem n) place good told = first-fault lines before line after (EdgeBeforeProblem n) place good told
fault-told lines before line after (BadField n) place good told = first-fault lines before line after (BadField n) place good told
fault-told lines before line after (VertexRange n) place good told = first-fault lines before line after (VertexRange n) place good told
fault-told lines before line after (SelfLoop n) place good told = first-fault lines before line after (SelfLoop n) place good told
fault-told lines before line after (TooLarge n) place good told = first-fault lines before line after (TooLarge n) place good told
fault-told lines before line after (UnknownLine n) place good told = first-fault lines before line after (UnknownLine n) place good told
fault-told lines before line after (EarlyLine n) place good told = first-fault lines before line after (EarlyLine n) place good told
fault-told lines before line after (NumberRange n) place good told = first-fault lines before line after (NumberRange n) place good told
fault-told lines before line after (IdTwice n) place good told = first-fault lines before line after (IdTwice n) place good told
fault-told lines before line after (ChannelRange n) place good told = first-fault lines before line after (ChannelRange n) place good told
fault-told lines before line after (TooManyBars n) place good told = first-fault lines before line after (TooManyBars n) place good told

-- `YieldsList-end` and its kin, with the road last
pub items-at_end : {S A B : Type 0} {steps : S → Option A → S → Type 0} {v : A → B} {s : S} {all : List B} (xs : List A) (t : S) (y : Yields steps s xs t)
    (r : Option A) (u : S) → r ≡ None → steps t r u → YieldsList steps v s all → map v xs ≡ all
items-at_end xs t y r u none step road = (YieldsList-end road xs t y r u none step).0

pub items-at_turn : {S A B : Type 0} {steps : S → Option A → S → Type 0} {v : A → B} {s : S} {all : List B} (xs : List A) (t : S) (y : Yields steps s xs t)
    (r : Option A) (u : S) (x : A) → r ≡ Some x → steps t r u → YieldsList steps v s all → (map v xs ≡ take (length xs) all) × (length xs < length all) ×
    (v x ≡ get_or all (length xs) (v x))
items-at_turn xs t y r u x some step road = let here = YieldsList-turn road xs t y r u x some step in (YieldsList-so_far road xs t y, here.0, here.1)

-- the same of the fields of the lines
pub lines-at_turn : {A : Type 0} (v : A → List ℕ) (parts : List (List ℕ)) (xs : List A) (x : A) → (map v xs ≡ take (length xs) parts) ×
    (length xs < length parts) × (v x ≡ get_or parts (length xs) (v x)) →
    map line_of parts ≡ map (λ y. line_of (v y)) xs ++ line_of (v x) ∷ map line_of (drop (suc (length xs)) parts)
lines-at_turn v parts xs x h = around line_of parts (length xs) (v x) h.1 h.2 ∙
    ap (λ ls. ls ++ line_of (v x) ∷ map line_of (drop (suc (length xs)) parts)) (ap (map line_of) (sym h.0) ∙ map-twice line_of v xs)
