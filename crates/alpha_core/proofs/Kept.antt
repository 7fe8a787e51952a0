-- What is kept of the ports against their flags: the number of safes, one port that is set, the next pulse, and new ports.
use Rattle.std.proofs.Common.{◌≡◌, ℕ, zero, suc, ◌+◌, ◌<◌, ◌≤◌, Bool, true, false, not, List, [], ◌∷◌, map, length, get_or, set, replicate}
use Rattle.std.proofs.Common.{refl, ap, sym, ◌∙◌, arith, cond, count_by, nat_lt, subst, ◌*◌}
use Rattle.std.specs.Prelude.{All}
use Rattle.std.proofs.lemmas.Bool.{and_parts, lt-ltb, le-ltb}
use Rattle.std.proofs.lemmas.Bool.Decides.{nat_tests}
use Rattle.std.proofs.lemmas.List.{get_or-map, get_or-replicate, length-map, length-replicate, map-set}
use Rattle.std.proofs.lemmas.List.Elements.{All-set}
use Rattle.std.proofs.lemmas.List.Folds.{sum_by-replicate}
use Rattle.std.proofs.lemmas.List.Sums.{sum_by-set}
use Rattle.alpha_core.specs.declared.marks.PortFlags.{PortFlags}
use Rattle.alpha_core.specs.declared.marks.Marks.{Marks}
use Rattle.alpha_core.specs.declared.when.When.{When}
use Rattle.alpha_core.specs.declared.when.When.TheVariants.{Now, Next}
use Rattle.alpha_core.specs.View.{bit}
use Rattle.alpha_core.specs.Rows.{AreCounted, AtPulse, IsInStep, advanced, all_have_safe, marks_at, marks_in, marks_with, no_marks, safes_of}
use Rattle.alpha_core.specs.When.{mark_safe, safes_before}
use Rattle.alpha_core.proofs.Counts.{count-cons, count-map}

-- the number of safes, by the two flags
safes-is : (p : ℕ) (o : PortFlags) → IsInStep p o → o.safes ≡ p + safes_of (marks_with p o)
safes-is p o step = by (nat_lt p o.safes) (nat_lt (p + 1) o.safes) refl refl
  where
    by : (a b : Bool) → nat_lt p o.safes ≡ a → nat_lt (p + 1) o.safes ≡ b → o.safes ≡ p + (bit a + bit b)
    by true true f g = grind (arith, nat_tests, step.0, step.1, f, g)
    by true false f g = grind (arith, nat_tests, step.0, step.1, f, g)
    by false true f g = grind (arith, nat_tests, step.0, step.1, f, g)
    by false false f g = grind (arith, nat_tests, step.0, step.1, f, g)

pub not_bit : (b : Bool) → cond {A = ℕ} (not b) 1 0 + cond {A = ℕ} b 1 0 ≡ 1
not_bit true = refl
not_bit false = refl

-- one safe more of a port: that of the pulse, or that of the next
abbrev pub one_more : PortFlags → PortFlags
one_more o = record { safes = o.safes + 1; waits = o.waits; closed = o.closed }

module _ (p : ℕ) (o : PortFlags) where
  pub safe-taken : (when : When) → o.safes ≡ p + safes_before when → marks_with p (one_more o) ≡ mark_safe when (marks_with p o)
  safe-taken Now e =
      ap (λ b. record (marks_with p (one_more o)) { safe = b }) (lt-ltb p (o.safes + 1) (omega (arith, e)))
      ∙ ap (λ b. record (marks_with p o) { safe = true; early_safe = b })
      (le-ltb (p + 1) (o.safes + 1) (omega (arith, e)) ∙ sym (le-ltb (p + 1) o.safes (omega (arith, e))))
  safe-taken Next e =
      ap (λ b. record (marks_with p (one_more o)) { early_safe = b }) (lt-ltb (p + 1) (o.safes + 1) (omega (arith, e)))
      ∙ ap (λ b. record (marks_with p o) { safe = b; early_safe = true })
      (lt-ltb p (o.safes + 1) (omega (arith, e)) ∙ sym (lt-ltb p o.safes (omega (arith, e))))

-- One port: `o` is kept of it.
module _ (p : ℕ) (kept : List PortFlags) (v : AtPulse Marks) (is : record { pulse = p; ports = marks_in p kept } ≡ v) where
  pub inside : (i : ℕ) → i < length v.ports → i < length kept
  inside i h = omega (arith, h, ap (λ (w : AtPulse Marks). length w.ports) is, length-map kept (marks_with p))

  pub seen : (i : ℕ) (o : PortFlags) → o ≡ get_or kept i o → i < length v.ports → marks_at v.ports i ≡ marks_with p o
  seen i o was h =
      ap (λ (w : AtPulse Marks). marks_at w.ports i) (sym is) ∙ get_or-map (marks_with p) kept i o no_marks (inside i h) ∙ ap (marks_with p) (sym was)

  pub step-of : (i : ℕ) (o : PortFlags) → o ≡ get_or kept i o → i < length v.ports → All (IsInStep p) kept → IsInStep p o
  step-of i o was h steps = subst (IsInStep p) (sym was) (steps i o (inside i h))

  pub safes-seen : (i : ℕ) (o : PortFlags) → o ≡ get_or kept i o → i < length v.ports → All (IsInStep p) kept → o.safes ≡ p + safes_of (marks_at v.ports i)
  safes-seen i o was h steps =
      safes-is p o (step-of i o was h steps) ∙ ap (λ m. p + safes_of m) (sym (seen i o was h))

  -- `m` takes its place
  module _ (i : ℕ) (o m : PortFlags) (was : o ≡ get_or kept i o) (h : i < length v.ports) where
    counted : (q : Marks → Bool) →
        count_by q (marks_in p (set kept i m)) + cond (q (marks_with p o)) 1 0 ≡ count_by q (marks_in p kept) + cond (q (marks_with p m)) 1 0
    counted q =
        omega (
          arith,
          ap (λ l. count_by q l) (map-set (marks_with p) kept i m),
          sum_by-set (λ x. cond (q x) 1 0) (marks_in p kept) i (marks_with p m) no_marks (omega (arith, inside i h, length-map kept (marks_with p))),
          ap (λ x. cond {A = ℕ} (q x) 1 0) (get_or-map (marks_with p) kept i o no_marks (inside i h)),
          ap (λ x. cond {A = ℕ} (q (marks_with p x)) 1 0) was,
        )

    pub are-counted : {waits safe early closed waits' safe' early' closed' : ℕ} → AreCounted p kept waits safe early closed → IsInStep p m
        → waits' + cond o.waits 1 0 ≡ waits + cond m.waits 1 0
        → safe' + cond (nat_lt p o.safes) 1 0 ≡ safe + cond (nat_lt p m.safes) 1 0
        → early' + cond (nat_lt (p + 1) o.safes) 1 0 ≡ early + cond (nat_lt (p + 1) m.safes) 1 0
        → closed' + cond o.closed 1 0 ≡ closed + cond m.closed 1 0
        → AreCounted p (set kept i m) waits' safe' early' closed'
    are-counted before step a b c d = record {
      in_step = All-set (IsInStep p) kept i m step before.in_step;
      waits = omega (arith, before.waits, a, counted (λ x. x.waits));
      safes = omega (arith, before.safes, b, counted (λ x. x.safe));
      early_safes = omega (arith, before.early_safes, c, counted (λ x. x.early_safe));
      closes = omega (arith, before.closes, d, counted (λ x. x.closed));
    }

    pub marks-set : (f : Marks → Marks) → marks_with p m ≡ f (marks_with p o)
        → record { pulse = p; ports = marks_in p (set kept i m) } ≡ record v { ports = set v.ports i (f (marks_at v.ports i)) }
    marks-set f e =
        ap (λ l. record { pulse = p; ports = l })
        (map-set (marks_with p) kept i m ∙ ap (λ x. set (marks_in p kept) i x) (e ∙ ap f (sym (seen i o was h))))
        ∙ ap (λ (w : AtPulse Marks). record w { ports = set w.ports i (f (marks_at v.ports i)) }) is

  -- one safe more was taken at the port: of this pulse, or of the next
  module _ (i : ℕ) (o : PortFlags) (was : o ≡ get_or kept i o) (h : i < length v.ports) {waits safe early closed : ℕ}
      (before : AreCounted p kept waits safe early closed) where
    pub now-counted : o.safes ≡ p + 0 → AreCounted p (set kept i (one_more o)) waits (safe + 1) early closed
    now-counted at =
        let taken = safe-taken p o Now at in
        are-counted i o (one_more o) was h before (omega (arith, at), omega (arith, at)) refl
        (omega (arith, ap (λ (x : Marks). cond {A = ℕ} x.safe 1 0) taken, ap (λ b. cond {A = ℕ} b 1 0) (le-ltb p o.safes (omega (arith, at)))))
        (omega (arith, ap (λ (x : Marks). cond {A = ℕ} x.early_safe 1 0) taken))
        refl

    pub next-counted : o.safes ≡ p + 1 → AreCounted p (set kept i (one_more o)) waits safe (early + 1) closed
    next-counted at =
        let taken = safe-taken p o Next at in
        are-counted i o (one_more o) was h before (omega (arith, at), omega (arith, at)) refl
        (omega (arith, ap (λ (x : Marks). cond {A = ℕ} x.safe 1 0) taken))
        (omega (
          arith,
          ap (λ (x : Marks). cond {A = ℕ} x.early_safe 1 0) taken,
          ap (λ b. cond {A = ℕ} b 1 0) (le-ltb (p + 1) o.safes (omega (arith, at))),
        ))
        refl

-- a count of ports that wait counts this one
pub waits-counted : (p : ℕ) (kept : List PortFlags) (i : ℕ) (o : PortFlags) → o ≡ get_or kept i o → i < length kept →
    cond o.waits 1 0 ≤ count_by (λ m. m.waits) (marks_in p kept)
waits-counted p kept i o was h =
    omega (
      arith,
      sum_by-set (λ x. cond (x.waits) 1 0) (marks_in p kept) i no_marks no_marks (omega (arith, h, length-map kept (marks_with p))),
      ap (λ x. cond {A = ℕ} (x.waits) 1 0) (get_or-map (marks_with p) kept i o no_marks h),
      ap (λ (x : PortFlags). cond {A = ℕ} (x.waits) 1 0) was,
    )

-- Where every port has the safe of this pulse, entering the next one changes the flags of a port by itself.
module _ (p : ℕ) where
  advance-one : (o : PortFlags) → IsInStep p o → marks_with (p + 1) o ≡ advanced (marks_with p o)
  advance-one o step =
      ap (λ b. record (marks_with p o) { safe = nat_lt (p + 1) o.safes; early_safe = b }) (le-ltb (p + 1 + 1) o.safes (omega (arith, step.1)))

  pub advance-all : (kept : List PortFlags) → All (IsInStep p) kept → marks_in (p + 1) kept ≡ map (λ m. advanced m) (marks_in p kept)
  advance-all [] step = refl
  advance-all (o ∷ kept) step =
      ap (λ x. x ∷ marks_in (p + 1) kept) (advance-one o (step 0 o (omega arith)))
      ∙ ap (λ l. advanced (marks_with p o) ∷ l) (advance-all kept (λ k d h. step (suc k) d (omega arith)))

  safe-each : (kept : List PortFlags) (k : ℕ) (d : PortFlags) → all_have_safe (marks_in p kept) ≡ true → k < length kept → p + 1 ≤ (get_or kept k d).safes
  safe-each [] k d e h = absurd (omega arith)
  safe-each (o ∷ kept) zero d e h = let first : nat_lt p o.safes ≡ true = (and_parts _ _ e).0 in grind (arith, nat_tests, first)
  safe-each (o ∷ kept) (suc k) d e h = safe-each kept k d (and_parts _ _ e).1 (omega arith)

  none-early : (marks : List Marks) → count_by (λ m. m.early_safe) (map (λ m. advanced m) marks) ≡ 0
  none-early [] = refl
  none-early (m ∷ marks) = omega (arith, count-cons (λ x. x.early_safe) (advanced m) (map (λ x. advanced x) marks), none-early marks)

  pub are-advanced : {waits safe early closed : ℕ} (kept : List PortFlags) → AreCounted p kept waits safe early closed → all_have_safe (marks_in p kept) ≡ true
      → AreCounted (p + 1) kept waits early 0 closed
  are-advanced kept before all =
      let marks = marks_in p kept in
      let next = advance-all kept before.in_step in
      let same : (q : Marks → Bool) → count_by q (marks_in (p + 1) kept) ≡ count_by (λ m. q (advanced m)) marks =
      λ q. ap (λ l. count_by q l) next ∙ count-map q (λ m. advanced m) marks in
      record {
        in_step = λ k d h. (safe-each kept k d all h, omega (arith, (before.in_step k d h).1));
        waits = before.waits ∙ sym (same (λ m. m.waits));
        safes = before.early_safes ∙ sym (same (λ m. m.safe));
        early_safes = sym (ap (λ l. count_by (λ m. m.early_safe) l) next ∙ none-early marks);
        closes = before.closes ∙ sym (same (λ m. m.closed));
      }

-- new ports
abbrev pub new_kept : PortFlags
new_kept = record { safes = 0; waits = false; closed = false }

pub new-marks : (n : ℕ) → marks_in 0 (replicate n new_kept) ≡ replicate n no_marks
new-marks zero = refl
new-marks (suc n) = ap (λ l. no_marks ∷ l) (new-marks n)

pub new-counted : (n : ℕ) (kept : List PortFlags) → kept ≡ replicate n new_kept → AreCounted 0 kept 0 0 0 0
new-counted n kept is =
    let none : (q : Marks → Bool) → q no_marks ≡ false → 0 ≡ count_by q (marks_in 0 kept) =
    λ q e. sym (ap (λ l. count_by q (marks_in 0 l)) is ∙ ap (λ l. count_by q l) (new-marks n)
    ∙ sum_by-replicate (λ x. cond (q x) 1 0) n no_marks ∙ omega (arith, ap (λ b. n * cond {A = ℕ} b 1 0) e)) in
    record {
      in_step = subst (λ (l : List PortFlags). (k : ℕ) (d : PortFlags) → k < length l → IsInStep 0 (get_or l k d)) (sym is)
          (λ k d h. subst (IsInStep 0) (sym (get_or-replicate n k new_kept d (omega (arith, length-replicate n new_kept)))) (omega arith, omega arith));
      waits = none (λ m. m.waits) refl;
      safes = none (λ m. m.safe) refl;
      early_safes = none (λ m. m.early_safe) refl;
      closes = none (λ m. m.closed) refl;
    }
