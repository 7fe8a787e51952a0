-- The set of the colours that a node has heard: empty at the first step of a forest, and at each
-- further step those before with those that came.
use Rattle.std.proofs.Common.{◌≡◌, ℕ, suc, ◌==◌, Bool, true, false, List, [], ◌∷◌, refl, ap, sym, ◌∙◌, arith, inl, inr}
use Rattle.std.specs.Prelude.{if◌then◌else◌, ◌||◌, map, filter, Option, Some, None, nat_lt, nat_le}
use Rattle.std.proofs.lemmas.Bool.Decides.{nat_tests}
use Rattle.std.proofs.lemmas.Bool.{cases_order, lt-ltb, le-ltb}
use Rattle.std.specs.Ordering.{nat_cmp}
use Rattle.std.specs.FinSet.{FinSet, empty, insert, contains, from_list, contains-empty, contains-from_list_nat}
use Rattle.forest_merge.proofs.Sets.{contains-insert_colour, same_colours}
use Rattle.interference.specs.Net.{Net, neighbours}
use Rattle.colour_rules.specs.declared.payload.Payload.{Payload}
use Rattle.colour_rules.specs.declared.payload.Payload.TheVariants.{Hello, Label, Colour, Chosen}
use Rattle.colour_rules.specs.Choice.{with_chosen}
use Rattle.colour_laws.specs.Colours.{colours_after}
use Rattle.colour_laws.proofs.Expected.{step_in, heard, among}
use Rattle.forests.specs.Forests.{number}
use Rattle.colour_rules.proofs.Pairs.{same_bool}

-- Whether one of two, as a function that does not unfold by itself.
unfoldable pub or : Bool → Bool → Bool
or true b = true
or false b = b

-- whether a colour came as chosen
has : List (Option Payload) → ℕ → Bool
has [] c = false
has (Some (Chosen x) ∷ slots) c = if x == c then true else has slots c
has (Some (Hello x) ∷ slots) c = has slots c
has (Some (Label x) ∷ slots) c = has slots c
has (Some (Colour x) ∷ slots) c = has slots c
has (None ∷ slots) c = has slots c

one_in : (t t' h b : Bool) → t ≡ t' → or h (t || b) ≡ or (if t' then true else h) b
unfolding or
one_in true true true b e = refl
one_in true true false b e = refl
one_in false false h b e = refl
one_in true false h b e = absurd (cc)
one_in false true h b e = absurd (cc)

with_has : (set : FinSet nat_cmp) (slots : List (Option Payload)) (c : ℕ) → contains (with_chosen set slots) c ≡ or (has slots c) (contains set c)
unfolding or has
with_has set [] c = refl
with_has set (Some (Chosen x) ∷ slots) c =
    with_has (insert set x) slots c ∙ ap (λ (b : Bool). or (has slots c) b) (contains-insert_colour set x c) ∙
    one_in (c == x) (x == c) (has slots c) (contains set c) (same_bool (c == x) (x == c) (λ e. grind (arith, nat_tests)) (λ e. grind (arith, nat_tests)))
with_has set (Some (Hello x) ∷ slots) c = with_has set slots c
with_has set (Some (Label x) ∷ slots) c = with_has set slots c
with_has set (Some (Colour x) ∷ slots) c = with_has set slots c
with_has set (None ∷ slots) c = with_has set slots c

or_true : (h : Bool) → true ≡ or h true
unfolding or
or_true true = refl
or_true false = refl

now_here : (t h a0 a1 : Bool) → a1 ≡ or h a0 → (t || a1) ≡ or (if t then true else h) a0
unfolding or
now_here true h a0 a1 e = refl
now_here false h a0 a1 e = e

was_here : (t h a0 a1 : Bool) → a1 ≡ or h a0 → (t || a1) ≡ or h (t || a0)
unfolding or
was_here true h a0 a1 e = or_true h
was_here false h a0 a1 e = e

-- what a neighbour sends: whether it chooses now, whether it tells this one, and its colour
abbrev pub slot_by : Bool → Bool → ℕ → Option Payload
slot_by e i x = if e then (if i then Some (Chosen x) else None) else None

one_more : (i e l : Bool) (new : ℕ → ℕ) (w c : ℕ) (slots : List (Option Payload)) (a0 a1 : List ℕ) → (e ≡ true → l ≡ true → ⊥) →
    among c (map new a1) ≡ or (has slots c) (among c (map new a0)) → among c (map new (if (if i then or e l else false) then w ∷ a1 else a1))
    ≡ or (has (slot_by e i (new w) ∷ slots) c) (among c (map new (if (if i then l else false) then w ∷ a0 else a0)))
unfolding or has
one_more false true l new w c slots a0 a1 ne ih = ih
one_more false false l new w c slots a0 a1 ne ih = ih
one_more true true true new w c slots a0 a1 ne ih = absurd (ne refl refl)
one_more true true false new w c slots a0 a1 ne ih = now_here (new w == c) (has slots c) (among c (map new a0)) (among c (map new a1)) ih
one_more true false true new w c slots a0 a1 ne ih = was_here (new w == c) (has slots c) (among c (map new a0)) (among c (map new a1)) ih
one_more true false false new w c slots a0 a1 ne ih = ih

pub lt_more : (a s : ℕ) → nat_lt a (suc s) ≡ or (a == s) (nat_lt a s)
unfolding or
lt_more a s =
    elim (cases_order a s) [
      | inl e ↦ let t : (a == s) ≡ true = grind (arith, nat_tests) in lt-ltb a (suc s) (omega arith) ∙ rw t refl
      | inr side ↦ elim side [
        | inl below ↦ let t : (a == s) ≡ false = grind (arith, nat_tests) in lt-ltb a (suc s) (omega arith) ∙ rw t (sym (lt-ltb a s below))
        | inr above ↦ let t : (a == s) ≡ false = grind (arith, nat_tests) in le-ltb a (suc s) (omega arith) ∙ rw t (sym (le-ltb a s (omega arith)))
      ]
    ]

-- what is heard before the next step: what came, and what was heard before
heard_more : (near : ℕ → Bool) (place new : ℕ → ℕ) (s c : ℕ) (ws : List ℕ) →
    among c (map new (filter (λ w. if near w then nat_lt (place w) (suc s) else false) ws))
    ≡ or (has (map (λ w. slot_by (place w == s) (near w) (new w)) ws) c) (among c (map new (filter (λ w. if near w then nat_lt (place w) s else false) ws)))
unfolding or has
heard_more near place new s c [] = refl
heard_more near place new s c (w ∷ ws) = rw (lt_more (place w) s) (one_more (near w) (place w == s) (nat_lt (place w) s) new w c
    (map (λ w. slot_by (place w == s) (near w) (new w)) ws) (filter (λ w. if near w then nat_lt (place w) s else false) ws)
    (filter (λ w. if near w then nat_lt (place w) (suc s) else false) ws) (λ e l. grind (arith, nat_tests)) (heard_more near place new s c ws))

never : (b : Bool) (x : ℕ) → (if b then nat_lt x 0 else false) ≡ false
never true x = le-ltb x 0 (omega arith)
never false x = refl

nothing_heard : (near : ℕ → Bool) (place new : ℕ → ℕ) (ws : List ℕ) → map new (filter (λ w. if near w then nat_lt (place w) 0 else false) ws) ≡ []
nothing_heard near place new [] = refl
nothing_heard near place new (w ∷ ws) = rw (never (near w) (place w)) (nothing_heard near place new ws)

-- the set of the colours heard
abbrev pub heard_set : Net → ℕ → ℕ → ℕ → FinSet nat_cmp
heard_set net f s v = from_list (heard net f s v)

list_of : (colours : List ℕ) → [] ≡ colours → empty {R = nat_cmp} ≡ from_list colours
list_of colours e = same_colours empty (from_list colours) (λ c. contains-empty nat_cmp c ∙ (ap (among c) e ∙ sym (contains-from_list_nat colours c)))

pub empty_set : (net : Net) (f v : ℕ) → empty ≡ heard_set net f 0 v
empty_set net f v = list_of (heard net f 0 v) (sym (nothing_heard (λ w. nat_le (number net v w) f) (step_in net f) (colours_after net (suc f))
    (neighbours net v)))

-- the set at the next step of the forest
pub more_set : (net : Net) (f s v : ℕ) → with_chosen (heard_set net f s v)
    (map (λ w. slot_by (step_in net f w == s) (nat_le (number net v w) f) (colours_after net (suc f) w)) (neighbours net v)) ≡ heard_set net f (suc s) v
more_set net f s v =
    let slots : List (Option Payload) = map (λ w. slot_by (step_in net f w == s) (nat_le (number net v w) f) (colours_after net (suc f) w)) (neighbours net v)
    in
    same_colours (with_chosen (heard_set net f s v) slots) (heard_set net f (suc s) v) (λ c.
    with_has (heard_set net f s v) slots c
    ∙ ap (λ (b : Bool). or (has slots c) b) (contains-from_list_nat (heard net f s v) c)
    ∙ sym (contains-from_list_nat (heard net f (suc s) v) c ∙ heard_more (λ w. nat_le (number net v w) f) (step_in net f) (colours_after net (suc f)) s c
    (neighbours net v)))
