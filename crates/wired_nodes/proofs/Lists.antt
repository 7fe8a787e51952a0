-- Lists by port, and one of them that gets longer.
use Rattle.std.proofs.Common.{◌≡◌, ℕ, zero, suc, ◌-◌, ◌<◌, List, [], ◌∷◌, ◌++◌, length, map, take, drop, set, get_or, refl, sym, ap, ◌∙◌, subst}
use Rattle.std.proofs.Common.{Some, slice_get, arith}
use Rattle.std.specs.Prelude.{All}
use Rattle.std.specs.List.{range_with_len}
use Rattle.std.proofs.Math.Seq.{map-set_same}
use Rattle.std.proofs.lemmas.List.{map-set, set-get_or, get_or-map, get_or-set_same, get_or-set_other, length-map, length-append, set-set}
use Rattle.std.proofs.lemmas.List.FromFn.{length-range_with_len, get_or-range_with_len}
use Rattle.wires.specs.declared.wire.Wire.{Wire}
use Rattle.wires.specs.declared.stamped.Stamped.{Stamped}
use Rattle.alpha_laws.specs.Laws.{OneMore}
use Rattle.stamps.specs.Keeps as stamps
use Rattle.wired_nodes.specs.declared.aside.Aside.{Aside}
use Rattle.wired_nodes.specs.Node.{by_port, all_but_last, reacted_to}

-- f can't tell the new thing from the old one
pub same_all : {A B : Type 0} (f : A → B) (xs : List A) (i : ℕ) (x y : A) → x ≡ get_or xs i x → f y ≡ f x → map f (set xs i y) ≡ map f xs
same_all f xs i x y is e = map-set_same f xs i y x (e ∙ ap f is)

pub get_map : {A B : Type 0} (f : A → B) (xs : List A) (i : ℕ) (x : A) (d : B) → i < length xs → x ≡ get_or xs i x → f x ≡ get_or (map f xs) i d
get_map f xs i x d lt is = ap f is ∙ sym (get_or-map f xs i x d lt)

-- a place below what is as much as another number, and below as many
pub below_same : (i m n : ℕ) → m ≡ n → i < m → i < n
below_same i m n e lt = subst (λ k. i < k) e lt

pub below_as_many : (i m n : ℕ) → m ≡ n → i < n → i < m
below_as_many i m n e lt = subst (λ k. i < k) (sym e) lt

-- a list that is given place by place
pub as_long : {A B : Type 0} (f : A → B) (g : ℕ → B) (xs : List A) (n : ℕ) → map f xs ≡ map g (range_with_len 0 n) → length xs ≡ n
as_long f g xs n e = sym (length-map xs f) ∙ ap (λ l. length l) e ∙ length-map (range_with_len 0 n) g ∙ length-range_with_len 0 n

pub at_place : {A B : Type 0} (f : A → B) (g : ℕ → B) (xs : List A) (n i : ℕ) (x : A) → map f xs ≡ map g (range_with_len 0 n) → i < n → x ≡ get_or xs i x
    → f x ≡ g i
at_place f g xs n i x e lt is =
    let within : i < length xs = omega (arith, as_long f g xs n e) in
    let at : get_or (range_with_len 0 n) i 0 ≡ i = omega (arith, get_or-range_with_len 0 n i 0 lt) in
    get_map f xs i x (f x) within is ∙ ap (λ l. get_or l i (f x)) e
    ∙ get_or-map g (range_with_len 0 n) i 0 (f x) (omega (arith, length-range_with_len 0 n)) ∙ ap g at

pub take_front : {A : Type 0} (xs ys : List A) → take (length xs) (xs ++ ys) ≡ xs
take_front [] ys = refl
take_front (x ∷ xs) ys = ap (λ l. x ∷ l) (take_front xs ys)

-- what is first, and the rest
pub first_is : {A : Type 0} (xs : List A) (x : A) → slice_get xs 0 ≡ Some x → xs ≡ x ∷ drop 1 xs
first_is [] x e = absurd cc
first_is (y ∷ ys) x e = let same : y ≡ x = cc in ap (λ z. z ∷ ys) same

module _ {A B : Type 0} (f : A → List B) where
  -- one thing more at the end of one list
  pub grows : (xs : List A) (i : ℕ) (x y : A) (w : B) → i < length xs → x ≡ get_or xs i x → f y ≡ f x ++ (w ∷ [])
      → map f (set xs i y) ≡ set (map f xs) i (by_port (map f xs) i ++ (w ∷ []))
  grows xs i x y w lt is more = map-set f xs i y ∙ ap (λ z. set (map f xs) i z) (more ∙ ap (λ z. z ++ (w ∷ [])) (get_map f xs i x [] lt is))

  grown_here : (xs : List A) (i : ℕ) (x y : A) (w : B) → i < length xs → x ≡ get_or xs i x → f y ≡ f x ++ (w ∷ [])
      → by_port (map f (set xs i y)) i ≡ by_port (map f xs) i ++ (w ∷ [])
  grown_here xs i x y w lt is more =
      let within : i < length (map f xs) = omega (arith, length-map xs f) in
      ap (λ l. get_or l i []) (grows xs i x y w lt is more) ∙ get_or-set_same (map f xs) i (by_port (map f xs) i ++ (w ∷ [])) [] within

  grown_other : (xs : List A) (i : ℕ) (x y : A) (w : B) → i < length xs → x ≡ get_or xs i x → f y ≡ f x ++ (w ∷ []) → (j : ℕ) → (j ≡ i → ⊥)
      → by_port (map f xs) j ≡ by_port (map f (set xs i y)) j
  grown_other xs i x y w lt is more j ne =
      sym (ap (λ l. get_or l j []) (grows xs i x y w lt is more) ∙ get_or-set_other (map f xs) i j (by_port (map f xs) i ++ (w ∷ [])) [] ne)

  -- nothing stands in a list where all are empty
  pub none_at : (xs : List A) → All (λ x. f x ≡ []) xs → (i : ℕ) → [] ≡ by_port (map f xs) i
  none_at [] all i = refl
  none_at (x ∷ xs) all zero = sym (all 0 x (omega arith))
  none_at (x ∷ xs) all (suc i) = none_at xs (λ k d lt. all (suc k) d (omega arith)) i

module _ {A M : Type 0} (f : A → List (Stamped M)) where
  pub one_more_stamped : (xs : List A) (i : ℕ) (x y : A) (w : Stamped M) → i < length xs → x ≡ get_or xs i x → f y ≡ f x ++ (w ∷ [])
      → stamps.OneMore i w (by_port (map f xs)) (by_port (map f (set xs i y)))
  one_more_stamped xs i x y w lt is more = record {
    here = grown_here f xs i x y w lt is more;
    others = λ j ne. grown_other f xs i x y w lt is more j ne;
  }

module _ {M : Type 0} where
  pub but_last-more : (ws : List (Wire M)) (w : Wire M) → all_but_last (ws ++ (w ∷ [])) ≡ ws
  but_last-more ws w =
      let long : length (ws ++ (w ∷ [])) - 1 ≡ length ws = omega (arith, length-append ws (w ∷ [])) in
      ap (λ n. take n (ws ++ (w ∷ []))) long ∙ take_front ws (w ∷ [])

  module _ {A : Type 0} (f : A → List (Wire M)) where
    -- one wire more at the end of one list
    pub one_more : (xs : List A) (i : ℕ) (x y : A) (w : Wire M) → i < length xs → x ≡ get_or xs i x → f y ≡ f x ++ (w ∷ [])
        → OneMore i w (by_port (map f xs)) (by_port (map f (set xs i y)))
    one_more xs i x y w lt is more = record {
      here = grown_here f xs i x y w lt is more;
      others = λ j ne. grown_other f xs i x y w lt is more j ne;
    }

    -- without the wire that came last, the lists are those from before
    pub set_aside : (xs : List A) (i : ℕ) (x y : A) (w : Wire M) (aside : Aside M) → aside.port ≡ i → i < length xs → x ≡ get_or xs i x → f y ≡ f x ++ (w ∷ [])
        → reacted_to (Some aside) (map f (set xs i y)) ≡ map f xs
    set_aside xs i x y w aside port lt is more =
        let within : i < length (map f xs) = omega (arith, length-map xs f) in
        let longer = by_port (map f xs) i ++ (w ∷ []) in
        ap (λ l. set l aside.port (all_but_last (get_or l aside.port []))) (grows f xs i x y w lt is more)
        ∙ ap (λ k. set (set (map f xs) i longer) k (all_but_last (get_or (set (map f xs) i longer) k []))) port
        ∙ set-set (map f xs) i longer _
        ∙ ap (λ z. set (map f xs) i z) (ap all_but_last (get_or-set_same (map f xs) i longer [] within) ∙ but_last-more (by_port (map f xs) i) w)
        ∙ set-get_or (map f xs) i []
