-- The forests of a node turned, one after another, and then what is written down of all.
use Rattle.std.proofs.Common.{◌≡◌, ◌≢◌, ℕ, zero, suc, ◌<◌, Bool, true, false, List, [], ◌∷◌, length, replicate, get_or}
use Rattle.std.proofs.Common.{refl, ap, sym, subst, ◌∙◌, inl, inr, arith}
use Rattle.std.specs.Prelude.{if◌then◌else◌, map, not, Option, None, slice_index, slice_set}
use Rattle.std.proofs.lemmas.Bool.{cases_eq}
use Rattle.std.proofs.lemmas.List.{get_or-map, get_or-set_other, get_or-set_same, length-map, length-set}
use Rattle.std.proofs.lemmas.List.FromFn.{fill_by_all}
use Rattle.colour_rules.specs.declared.phase.Reduction.{Reduction}
use Rattle.colour_rules.specs.declared.colours.InForest.{InForest}
use Rattle.colour_rules.specs.declared.colours.InForests.{InForests}
use Rattle.colour_rules.specs.InForests.{AreTurned, IsReadyAt, before_in, befores_of, blank, colour_by, colours_by, colours_in, in_forest, turned_in}
use Rattle.colour_rules.specs.Program.{AreReady, IsReady, next_colour, turned_all, kept_colour, kept_all}

if-false : {A : Type 0} (b : Bool) (x y : A) → b ≡ false → (if b then x else y) ≡ y
if-false true x y e = absurd (cc)
if-false false x y e = refl

if-true : {A : Type 0} (b : Bool) (x y : A) → b ≡ true → (if b then x else y) ≡ x
if-true true x y e = refl
if-true false x y e = absurd (cc)

module _ (reduction : Reduction) (id : ℕ) (parent : ℕ → Option ℕ) where
  -- where no forest turns, nothing changes
  pub turned-none : (turns : ℕ → Bool) (old : InForests) → ((f : ℕ) → turns f ≡ false) → AreTurned reduction id parent turns old old
  turned-none turns old none =
      record {
        seeded = refl;
        size = refl;
        each = λ f h. sym (if-false (turns f) (turned_in reduction id old.is_seeded (parent f) (in_forest old f)) (in_forest old f) (none f));
      }

  -- other words for which forests turn
  pub turned-same : (turns other : ℕ → Bool) (old new : InForests) → AreTurned reduction id parent turns old new →
      ((f : ℕ) → f < length old.each.items → turns f ≡ other f) → AreTurned reduction id parent other old new
  turned-same turns other old new t same =
      record {
        seeded = t.seeded;
        size = t.size;
        each = λ f h.
            t.each f h
            ∙ ap (λ (b : Bool). if b then turned_in reduction id old.is_seeded (parent f) (in_forest old f) else in_forest old f) (same f h);
      }

  module _ (turns : ℕ → Bool) (old mid : InForests) (t : AreTurned reduction id parent turns old mid) (g : ℕ) (here : g < length old.each.items)
      (waits : turns g ≡ false) (came : Option ℕ) (is : came ≡ parent g) where
    -- a forest that hasn't turned is as before
    still : in_forest mid g ≡ in_forest old g
    still = t.each g here ∙ if-false (turns g) (turned_in reduction id old.is_seeded (parent g) (in_forest old g)) (in_forest old g) waits

    -- and ready if it was
    pub ready-still : IsReadyAt reduction id (parent g) old g → IsReadyAt reduction id came mid g
    ready-still ready =
        subst (λ (x : Option ℕ). IsReadyAt reduction id x mid g) (sym is)
        (subst (λ (one : InForest). IsReady reduction (colour_by id mid.is_seeded one) one.before (parent g)) (sym still)
        (subst (λ (b : Bool). IsReady reduction (colour_by id b (in_forest old g)) (in_forest old g).before (parent g)) (sym t.seeded) ready))

    -- one more forest turns
    pub turned-more : (more : ℕ → Bool) (new : InForests) → more g ≡ true → ((f : ℕ) → f ≢ g → more f ≡ turns f) → new.is_seeded ≡ mid.is_seeded →
        new.each.items ≡ slice_set mid.each.items g (turned_in reduction id mid.is_seeded came (in_forest mid g)) →
        AreTurned reduction id parent more old new
    turned-more more new now others seeded each =
        let one : InForest = turned_in reduction id mid.is_seeded came (in_forest mid g) in
        let within : g < length mid.each.items = omega (arith, t.size, here) in
        record {
          seeded = seeded ∙ t.seeded;
          size = ap (λ (es : List InForest). length es) each ∙ (length-set mid.each.items g one ∙ t.size);
          each = λ f h.
              let old_one : InForest = in_forest old f in
              let next : Bool → InForest = λ b. if b then turned_in reduction id old.is_seeded (parent f) old_one else old_one in
              ap (λ (es : List InForest). get_or es f blank) each
              ∙ elim (cases_eq f g) [
                | inl e ↦ rw e
                    (get_or-set_same mid.each.items g one blank within
                    ∙ ((λ k. turned_in reduction id (t.seeded k) (is k) (still k))
                    ∙ sym (if-true (more g) (turned_in reduction id old.is_seeded (parent g) (in_forest old g)) (in_forest old g) now)))
                | inr other ↦ get_or-set_other mid.each.items g f one blank other ∙ (t.each f h ∙ ap next (sym (others f other)))
              ];
        }

-- what turned below parents and then as roots has turned in all forests
pub turned-both : (reduction : Reduction) (id : ℕ) (parent : ℕ → Option ℕ) (heard : ℕ → Bool) (old mid new : InForests) →
    ((f : ℕ) → heard f ≡ false → parent f ≡ None) → AreTurned reduction id parent heard old mid →
    AreTurned reduction id (λ f. None) (λ f. not (heard f)) mid new → AreTurned reduction id parent (λ f. true) old new
turned-both reduction id parent heard old mid new roots t u =
    record { seeded = u.seeded ∙ t.seeded; size = u.size ∙ t.size; each = λ f h. at f (heard f) refl h }
  where
    at : (f : ℕ) (b : Bool) → heard f ≡ b → f < length old.each.items →
        in_forest new f ≡ turned_in reduction id old.is_seeded (parent f) (in_forest old f)
    at f true is h =
        let as_root : Bool → InForest = λ b. if not b then turned_in reduction id mid.is_seeded None (in_forest mid f) else in_forest mid f in
        let as_child : Bool → InForest = λ b. if b then turned_in reduction id old.is_seeded (parent f) (in_forest old f) else in_forest old f in
        u.each f (omega (arith, h, t.size)) ∙ (ap as_root is ∙ (t.each f h ∙ ap as_child is))
    at f false is h =
        let as_root : Bool → InForest = λ b. if not b then turned_in reduction id mid.is_seeded None (in_forest mid f) else in_forest mid f in
        let as_child : Bool → InForest = λ b. if b then turned_in reduction id old.is_seeded (parent f) (in_forest old f) else in_forest old f in
        let same : in_forest mid f ≡ in_forest old f = t.each f h ∙ ap as_child is in
        u.each f (omega (arith, h, t.size))
        ∙ (ap as_root is ∙ (λ k. turned_in reduction id (t.seeded k) (sym (roots f is) k) (same k)))

module _ (reduction : Reduction) (id : ℕ) (parent : ℕ → Option ℕ) (old new : InForests) (t : AreTurned reduction id parent (λ f. true) old new) where
  colour-at : (f : ℕ) → f < length old.each.items → slice_index (colours_in id old) f ≡ colour_by id old.is_seeded (in_forest old f)
  colour-at f h = get_or-map (colour_by id old.is_seeded) old.each.items f blank 0 h

  before-at : (f : ℕ) → f < length old.each.items → slice_index (before_in old) f ≡ (in_forest old f).before
  before-at f h = get_or-map (λ one. one.before) old.each.items f blank 0 h

  long : length (colours_in id old) ≡ length old.each.items
  long = length-map old.each.items (colour_by id old.is_seeded)

  -- what is written down are the next colours
  pub all-turned : colours_by id false new.each.items ≡ turned_all reduction (colours_in id old) (before_in old) parent
  all-turned =
      fill_by_all (λ f. next_colour reduction (slice_index (colours_in id old) f) (slice_index (before_in old) f) (parent f))
      (colours_by id false new.each.items) (length (colours_in id old)) 0 (length-map new.each.items (colour_by id false) ∙ (t.size ∙ sym long))
      (λ f h.
      let within : f < length old.each.items = omega (arith, long) in
      get_or-map (colour_by id false) new.each.items f blank 0 (omega (arith, within, t.size))
      ∙ (ap (λ (one : InForest). one.colour) (t.each f within) ∙ rw (colour-at f within, before-at f within) refl))

  -- and those kept beside them
  pub all-kept : befores_of new.each.items ≡ kept_all reduction (colours_in id old) (before_in old)
  all-kept =
      fill_by_all (λ f. kept_colour reduction (slice_index (colours_in id old) f) (slice_index (before_in old) f))
      (befores_of new.each.items) (length (colours_in id old)) 0 (length-map new.each.items (λ one. one.before) ∙ (t.size ∙ sym long))
      (λ f h.
      let within : f < length old.each.items = omega (arith, long) in
      get_or-map (λ one. one.before) new.each.items f blank 0 (omega (arith, within, t.size))
      ∙ (ap (λ (one : InForest). one.before) (t.each f within) ∙ rw (colour-at f within, before-at f within) refl))

-- every forest is ready to be turned, in what is written down of it
pub ready-at : (reduction : Reduction) (id : ℕ) (parent : ℕ → Option ℕ) (all : InForests) → AreReady reduction (colours_in id all) (before_in all) parent →
    (f : ℕ) → f < length all.each.items → IsReadyAt reduction id (parent f) all f
ready-at reduction id parent all ready f h =
    let colour : slice_index (colours_in id all) f ≡ colour_by id all.is_seeded (in_forest all f) =
    get_or-map (colour_by id all.is_seeded) all.each.items f blank 0 h in
    let before : slice_index (before_in all) f ≡ (in_forest all f).before = get_or-map (λ one. one.before) all.each.items f blank 0 h in
    subst (λ (n : ℕ). IsReady reduction n (in_forest all f).before (parent f)) colour
    (subst (λ (n : ℕ). IsReady reduction (slice_index (colours_in id all) f) n (parent f)) before
    (ready f (omega (arith, h, length-map all.each.items (colour_by id all.is_seeded)))))

-- a seeded forest has the identifier as its colour
pub seeded-all : (id : ℕ) (each : List InForest) → colours_by id true each ≡ replicate (length (befores_of each)) id
seeded-all id [] = refl
seeded-all id (one ∷ each) = ap (λ (rest : List ℕ). id ∷ rest) (seeded-all id each)

-- a list of equal entries
pub map-same : (f : InForest → ℕ) (n : ℕ) (one : InForest) → map f (replicate n one) ≡ replicate n (f one)
map-same f zero one = refl
map-same f (suc n) one = ap (λ (rest : List ℕ). f one ∷ rest) (map-same f n one)
