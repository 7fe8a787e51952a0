-- The edges of a vertex are dealt to the forests one at a time, and vertices one after another:
-- 1. one edge more at one vertex (`dealt-more`);
-- 2. one vertex more in a forest (`forest-more`);
-- 3. the lists that then stand by forest are the forests (`forests-are`).
use Rattle.std.proofs.Common.{◌≡◌, ◌≢◌, ℕ, zero, suc, ◌+◌, ◌-◌, ◌<◌, ◌≤◌, List, [], ◌∷◌, ◌++◌, length, get_or, set, take, map, refl, ap, sym, ◌∙◌, arith, subst}
use Rattle.std.proofs.Common.{inl, inr, Option, Some, None}
use Rattle.std.specs.List.{slice_get, filter_map, cons_option, range_with_len}
use Rattle.std.specs.Option.{option_map}
use Rattle.std.proofs.lemmas.Bool.{cases_eq}
use Rattle.std.proofs.lemmas.Option.{slice_get-map}
use Rattle.std.proofs.lemmas.List.{append-nil, get_or-set_same, get_or-set_other, length-map, get_or-map, get_or_default, same_lists}
use Rattle.std.proofs.lemmas.List.Elements.{filter_map-append}
use Rattle.std.proofs.lemmas.List.FromFn.{length-range_with_len, get_or-range_with_len}
use Rattle.interference.specs.Net.{Net}
use Rattle.interference.proofs.Members.{range-more}
use Rattle.forests.specs.Forests.{up, parent, edge_up}
use Rattle.forests.specs.Dealing.{with_id, edge_to, edge_at}

-- ---- one edge more
get-take_other : {X : Type 0} (xs : List X) (i f : ℕ) → f ≢ i → slice_get (take (suc i) xs) f ≡ slice_get (take i xs) f
get-take_other [] zero f ne = refl
get-take_other [] (suc i) f ne = refl
get-take_other (x ∷ xs) zero zero ne = absurd (ne refl)
get-take_other (x ∷ xs) zero (suc f) ne = refl
get-take_other (x ∷ xs) (suc i) zero ne = refl
get-take_other (x ∷ xs) (suc i) (suc f) ne = get-take_other xs i f (λ e. ne (ap suc e))

get-take_here : {X : Type 0} (xs : List X) (i : ℕ) (d : X) → i < length xs → slice_get (take (suc i) xs) i ≡ Some (get_or xs i d)
get-take_here [] i d h = absurd (omega arith)
get-take_here (x ∷ xs) zero d h = refl
get-take_here (x ∷ xs) (suc i) d h = get-take_here xs i d (omega arith)

get-take_none : {X : Type 0} (xs : List X) (i : ℕ) → slice_get (take i xs) i ≡ None
get-take_none [] zero = refl
get-take_none [] (suc i) = refl
get-take_none (x ∷ xs) zero = refl
get-take_none (x ∷ xs) (suc i) = get-take_none xs i

module _ (v i : ℕ) (parents : List (ℕ × ℕ)) (d : ℕ × ℕ) (here : i < length parents) (old now : List (List (ℕ × ℕ × ℕ))) (room : i < length now) where
  -- the list of forest i gets the edge to parent i, the others stay
  pub dealt-more : (edges : List (ℕ × ℕ × ℕ)) → edges ≡ get_or now i [] ++ (i, v, (get_or parents i d).1) ∷ [] → (f : ℕ) →
      get_or now f [] ≡ get_or old f [] ++ edge_at f v (take i parents) →
      get_or (set now i edges) f [] ≡ get_or old f [] ++ edge_at f v (take (i + 1) parents)
  dealt-more edges is f before =
      let step : i + 1 ≡ suc i = omega arith in
      rw step (elim (cases_eq f i) [
        | inl same ↦ rw same (
            let none : get_or now i [] ≡ get_or old i [] = (let at : get_or now i [] ≡ get_or old i [] ++ edge_at i v (take i parents) =
            subst (λ (k : ℕ). get_or now k [] ≡ get_or old k [] ++ edge_at k v (take i parents)) same before in at ∙
            (ap (λ o. get_or old i [] ++ edge_to i v o) (get-take_none parents i) ∙ append-nil (get_or old i []))) in
            get_or-set_same now i edges [] room ∙ (is ∙ (ap (λ xs. xs ++ (i, v, (get_or parents i d).1) ∷ []) none ∙
            ap (λ o. get_or old i [] ++ edge_to i v o) (sym (get-take_here parents i d here)))))
        | inr other ↦ get_or-set_other now i f edges [] other ∙ (before ∙ ap (λ o. get_or old f [] ++ edge_to f v o) (sym (get-take_other parents i f other)))
      ])

-- ---- one vertex more
edge-is : (net : Net) (f v : ℕ) (o : Option ℕ) → edge_to f v (option_map (with_id net) o) ≡ cons_option (option_map (λ w. (f, v, w)) o) []
edge-is net f v None = refl
edge-is net f v (Some w) = refl

-- what is dealt to forest f is the edge up from v, where v has a parent there
pub edge_at-is : (net : Net) (f v : ℕ) → edge_at f v (map (with_id net) (up net v)) ≡ cons_option (edge_up net f v) []
edge_at-is net f v = ap (λ o. edge_to f v o) (slice_get-map (with_id net) (up net v) f) ∙ edge-is net f v (parent net f v)

pub forest-more : (net : Net) (f n : ℕ) → filter_map (edge_up net f) (range_with_len 1 (n + 1)) ≡ filter_map (edge_up net f) (range_with_len 1 n)
    ++ cons_option (edge_up net f (n + 1)) []
forest-more net f n =
    let step : n + 1 ≡ suc n = omega arith in
    let last : 1 + n ≡ n + 1 = omega arith in
    ap (λ k. filter_map (edge_up net f) (range_with_len 1 k)) step
    ∙ (ap (λ ks. filter_map (edge_up net f) ks) (range-more 1 n)
    ∙ (filter_map-append (edge_up net f) (range_with_len 1 n) ((1 + n) ∷ [])
    ∙ ap (λ k. filter_map (edge_up net f) (range_with_len 1 n) ++ cons_option (edge_up net f k) []) last))

-- the list of forest f once v is dealt, where it had the edges of the vertices before v
pub vertex-dealt : (net : Net) (f v : ℕ) (before edges after : List (ℕ × ℕ × ℕ)) → 1 ≤ v → before ≡ filter_map (edge_up net f) (range_with_len 1 (v - 1)) →
    edges ≡ edge_at f v (map (with_id net) (up net v)) → after ≡ before ++ edges → after ≡ filter_map (edge_up net f) (range_with_len 1 (v + 1 - 1))
vertex-dealt net f v before edges after low had dealt is =
    let here : v - 1 + 1 ≡ v = omega arith in
    let next : v - 1 + 1 ≡ v + 1 - 1 = omega arith in
    is ∙ (ap (λ xs. xs ++ edges) had ∙ (ap (λ xs. filter_map (edge_up net f) (range_with_len 1 (v - 1)) ++ xs) (dealt ∙ edge_at-is net f v)
    ∙ (ap (λ k. filter_map (edge_up net f) (range_with_len 1 (v - 1)) ++ cons_option (edge_up net f k) []) (sym here) ∙
    (sym (forest-more net f (v - 1)) ∙ ap (λ k. filter_map (edge_up net f) (range_with_len 1 k)) next))))

-- ---- all forests
pub forests-are : {X : Type 0} (made : ℕ → List X) (rows : List (List X)) (n : ℕ) → length rows ≡ n → ((f : ℕ) → f < n → get_or rows f [] ≡ made f) →
    rows ≡ map made (range_with_len 0 n)
forests-are made rows n long each =
    let size : length (range_with_len 0 n) ≡ n = length-range_with_len 0 n in
    same_lists rows (map made (range_with_len 0 n)) (long ∙ sym (length-map (range_with_len 0 n) made ∙ size))
    (λ k d below.
    let within : k < length (range_with_len 0 n) = omega arith in
    let at : get_or (range_with_len 0 n) k 0 ≡ k = get_or-range_with_len 0 n k 0 (omega arith) ∙ (let z : 0 + k ≡ k = omega arith in z) in
    get_or_default rows k d [] below ∙ (each k (omega arith) ∙ sym (get_or-map made (range_with_len 0 n) k 0 d within ∙ ap made at)))
