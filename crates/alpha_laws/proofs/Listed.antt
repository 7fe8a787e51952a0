-- What stands in a list of wires that has come to a place of its stream.
use Rattle.std.proofs.Common.{◌≡◌, ℕ, suc, zero, ◌+◌, ◌*◌, ◌<◌, ◌≤◌, ◌⊎◌, Bool, true, false, List, [], ◌∷◌, ◌++◌, Option, Some, None, refl, sym, ap, ◌∙◌, arith}
use Rattle.std.proofs.Common.{subst, inl, inr, ⊎_elim}
use Rattle.std.specs.Prelude.{is_some, if◌then◌else◌, Contains}
use Rattle.std.proofs.lemmas.Bool.{cases_eq}
use Rattle.std.proofs.lemmas.List.Elements.{Contains-append_left, Contains-append_right, Contains-append_cases}
use Rattle.wires.specs.declared.wire.Wire.{Wire}
use Rattle.wires.specs.declared.wire.Wire.TheVariants.{Payload, Ack, Safe, Close}
use Rattle.wires.specs.Wires.{safes_of}
use Rattle.wires.specs.Streams.{sent_pulse, sent_pulses}
use Rattle.alpha_core.specs.View.{bit}
use Rattle.alpha_laws.proofs.Cursor.{place, payloads_to}
use Rattle.alpha_laws.specs.Position.{Position, move, moves, Follows}

pub contains_cons : {A : Type 0} (w : A) (ws : List A) (x : A) → Contains (w ∷ ws) x → (w ≡ x) ⊎ Contains ws x
contains_cons w ws x (zero, lt, e) = inl e
contains_cons w ws x (suc k, lt, e) = inr (k, omega arith, e)

-- what stands before and after an entry
pub has_split : {A : Type 0} (xs : List A) (x : A) → Contains xs x → (before : List A) × (after : List A) × (xs ≡ before ++ (x ∷ after))
has_split [] x (k, lt, e) = absurd (omega arith)
has_split (y ∷ xs) x has = ⊎_elim
    (λ here. ([], xs, ap (λ z. z ∷ xs) here))
    (λ more. let rest = has_split xs x more in (y ∷ rest.0, rest.1, ap (λ l. y ∷ l) rest.2))
    (contains_cons y xs x has)

pub contains_one : {M : Type 0} (q : ℕ) (o : Option M) (r : ℕ) → Contains (sent_pulse q o) r → q ≡ r
contains_one q None r (k, lt, e) = absurd (omega arith)
contains_one q (Some x) r c = ⊎_elim (λ e. e) (λ (k, lt, e). absurd (omega arith)) (contains_cons q [] r c)

pub one_contains : {M : Type 0} (q : ℕ) (o : Option M) → is_some o ≡ true → Contains (sent_pulse q o) q
one_contains q None e = absurd cc
one_contains q (Some x) e = (0, omega arith, refl)

module _ {M : Type 0} (sends : ℕ → Option M) where
  pub pulses_below : (n q : ℕ) → Contains (sent_pulses sends n) q → q < n
  pulses_below zero q (k, lt, e) = absurd (omega arith)
  pulses_below (suc n) q c = ⊎_elim
      (λ before. omega (arith, pulses_below n q before))
      (λ here. omega (arith, contains_one n (sends n) q here))
      (Contains-append_cases (sent_pulses sends n) (sent_pulse n (sends n)) q c)

  pub pulses_has : (n q : ℕ) → q < n → is_some (sends q) ≡ true → Contains (sent_pulses sends n) q
  pulses_has zero q lt e = absurd (omega arith)
  pulses_has (suc n) q lt e = ⊎_elim
      (λ same. Contains-append_right (sent_pulses sends n) (sent_pulse n (sends n)) q (subst (λ r. Contains (sent_pulse n (sends n)) r) (sym same)
      (one_contains n (sends n) (ap (λ r. is_some (sends r)) (sym same) ∙ e))))
      (λ ne. Contains-append_left (sent_pulses sends n) (sent_pulse n (sends n)) q (pulses_has n q (omega arith) e))
      (cases_eq q n)

  pub payloads_to_below : (c : Position) (q : ℕ) → Contains (payloads_to sends c) q → 2 * q < place c
  payloads_to_below c q has = ⊎_elim
      (λ before. omega (arith, pulses_below c.safes q before))
      (λ here. last_one c.paid here)
      (Contains-append_cases (sent_pulses sends c.safes) (if c.paid then c.safes ∷ [] else []) q has)
    where
      last_one : (b : Bool) → Contains (if b then c.safes ∷ [] else []) q → 2 * q < 2 * c.safes + bit b
      last_one true h = ⊎_elim (λ e. omega arith) (λ (k, lt, e). absurd (omega arith)) (contains_cons c.safes [] q h)
      last_one false (k, lt, e) = absurd (omega arith)

  pub safe_below : (last : ℕ) (c : Position) (ws : List (Wire M)) (q : ℕ) → Follows sends last c ws → Contains ws (Safe q) → q < (moves c ws).safes
  safe_below last c [] q g (k, lt, e) = absurd (omega arith)
  safe_below last c (Payload r x ∷ ws) q g h = ⊎_elim (λ e. absurd cc) (λ more. safe_below last (move c (Payload r x)) ws q g.1 more) (contains_cons _ ws _ h)
  safe_below last c (Ack r ∷ ws) q g h = ⊎_elim (λ e. absurd cc) (λ more. safe_below last c ws q g.1 more) (contains_cons _ ws _ h)
  safe_below last c (Safe r ∷ ws) q g h = ⊎_elim
      (λ e. let same : r ≡ q = cc in let is : r ≡ c.safes = g.0.1 in omega (arith, safes_grow last (move {M = M} c (Safe r)) ws))
      (λ more. safe_below last (move {M = M} c (Safe r)) ws q g.1 more)
      (contains_cons _ ws _ h)
    where
      safes_grow : (last : ℕ) (c : Position) (ws : List (Wire M)) → c.safes ≤ (moves c ws).safes
      safes_grow last c [] = omega arith
      safes_grow last c (Payload r x ∷ ws) = safes_grow last (move c (Payload r x)) ws
      safes_grow last c (Ack r ∷ ws) = safes_grow last c ws
      safes_grow last c (Safe r ∷ ws) = omega (arith, safes_grow last (move {M = M} c (Safe r)) ws)
      safes_grow last c (Close ∷ ws) = safes_grow last (move {M = M} c Close) ws
  safe_below last c (Close ∷ ws) q g h = ⊎_elim (λ e. absurd cc) (λ more. safe_below last (move {M = M} c Close) ws q g.1 more) (contains_cons _ ws _ h)

pub safes_moved : {M : Type 0} (c : Position) (ws : List (Wire M)) → safes_of ws + c.safes ≡ (moves c ws).safes
safes_moved c [] = omega arith
safes_moved c (Payload r x ∷ ws) = safes_moved (move c (Payload r x)) ws
safes_moved c (Ack r ∷ ws) = safes_moved c ws
safes_moved {M} c (Safe r ∷ ws) = omega (arith, safes_moved (move {M = M} c (Safe r)) ws)
safes_moved {M} c (Close ∷ ws) = safes_moved (move {M = M} c Close) ws

pub contains_more : {A : Type 0} (w : A) (ws : List A) (x : A) → Contains ws x → Contains (w ∷ ws) x
contains_more w ws x (k, lt, e) = (suc k, omega arith, e)

closed_stays : {M : Type 0} (c : Position) (ws : List (Wire M)) → c.closed ≡ true → (moves c ws).closed ≡ true
closed_stays c [] e = e
closed_stays c (Payload r x ∷ ws) e = closed_stays (move c (Payload r x)) ws e
closed_stays c (Ack r ∷ ws) e = closed_stays c ws e
closed_stays {M} c (Safe r ∷ ws) e = closed_stays (move {M = M} c (Safe r)) ws e
closed_stays {M} c (Close ∷ ws) e = closed_stays (move {M = M} c Close) ws refl

-- a list that closes has Close, and the other way
pub close_in : {M : Type 0} (c : Position) (ws : List (Wire M)) → c.closed ≡ false → (moves c ws).closed ≡ true → Contains ws Close
close_in c [] f e = absurd cc
close_in c (Payload r x ∷ ws) f e = contains_more _ ws _ (close_in (move c (Payload r x)) ws f e)
close_in c (Ack r ∷ ws) f e = contains_more _ ws _ (close_in c ws f e)
close_in {M} c (Safe r ∷ ws) f e = contains_more _ ws _ (close_in (move {M = M} c (Safe r)) ws f e)
close_in c (Close ∷ ws) f e = (0, omega arith, refl)

pub in_close : {M : Type 0} (c : Position) (ws : List (Wire M)) → Contains ws Close → (moves c ws).closed ≡ true
in_close c [] (k, lt, e) = absurd (omega arith)
in_close c (Payload r x ∷ ws) h = ⊎_elim (λ e. absurd cc) (λ more. in_close (move c (Payload r x)) ws more) (contains_cons _ ws _ h)
in_close c (Ack r ∷ ws) h = ⊎_elim (λ e. absurd cc) (λ more. in_close c ws more) (contains_cons _ ws _ h)
in_close {M} c (Safe r ∷ ws) h = ⊎_elim (λ e. absurd cc) (λ more. in_close (move {M = M} c (Safe r)) ws more) (contains_cons _ ws _ h)
in_close {M} c (Close ∷ ws) h = closed_stays (move {M = M} c Close) ws refl
