-- How far a list of wires has come in its link's stream, and what may come next.
use Rattle.std.proofs.Common.{◌≡◌, ℕ, suc, ◌+◌, ◌*◌, ◌≤◌, Bool, true, false, List, [], ◌∷◌, ◌++◌, Option, Some, None, length, refl, sym, ap, ◌∙◌, append_assoc}
use Rattle.std.proofs.Common.{append-nil, arith, subst}
use Rattle.std.specs.Prelude.{is_some, if◌then◌else◌}
use Rattle.wires.proofs.Wires.{payloads-append}
use Rattle.wires.specs.declared.wire.Wire.{Wire}
use Rattle.wires.specs.declared.wire.Wire.TheVariants.{Payload, Ack, Safe, Close}
use Rattle.wires.specs.Wires.{acks_of, payloads_of}
use Rattle.wires.specs.Streams.{sent_pulse, sent_pulses}
use Rattle.alpha_core.specs.View.{bit}
use Rattle.link_rule.specs.Sent.{sends}
use Rattle.alpha_laws.specs.Position.{Position, move, moves, Allows, Follows}

-- how far: two for each safe, and one for the payload after them
abbrev pub place : Position → ℕ
place c = 2 * c.safes + bit c.paid

abbrev pub payloads_to : {M : Type 0} → (ℕ → Option M) → Position → List ℕ
payloads_to sends c = sent_pulses sends c.safes ++ (if c.paid then c.safes ∷ [] else [])

module _ {M : Type 0} where
  pub moves-append : (c : Position) (xs ys : List (Wire M)) → moves c (xs ++ ys) ≡ moves (moves c xs) ys
  moves-append c [] ys = refl
  moves-append c (w ∷ xs) ys = moves-append (move c w) xs ys

module _ {M : Type 0} (sends : ℕ → Option M) (last : ℕ) where
  pub follows-front : (c : Position) (xs ys : List (Wire M)) → Follows sends last c (xs ++ ys) → Follows sends last c xs
  follows-front c [] ys g = tt
  follows-front c (w ∷ xs) ys g = (g.0, follows-front (move c w) xs ys g.1)

  pub follows-rest : (c : Position) (xs ys : List (Wire M)) → Follows sends last c (xs ++ ys) → Follows sends last (moves c xs) ys
  follows-rest c [] ys g = g
  follows-rest c (w ∷ xs) ys g = follows-rest (move c w) xs ys g.1

  pub follows-more : (c : Position) (xs ys : List (Wire M)) → Follows sends last c xs → Follows sends last (moves c xs) ys → Follows sends last c (xs ++ ys)
  follows-more c [] ys g h = h
  follows-more c (w ∷ xs) ys g h = (g.0, follows-more (move c w) xs ys g.1 h)

  -- nothing comes after Close
  pub closed-ends : (c : Position) (ws : List (Wire M)) → c.closed ≡ true → Follows sends last c ws → ws ≡ []
  closed-ends c [] e g = refl
  closed-ends c (Payload q x ∷ ws) e g = let no : c.closed ≡ false = g.0.0 in cc
  closed-ends c (Ack q ∷ ws) e g = let no : c.closed ≡ false = g.0 in cc
  closed-ends c (Safe q ∷ ws) e g = let no : c.closed ≡ false = g.0.0 in cc
  closed-ends c (Close ∷ ws) e g = let no : c.closed ≡ false = g.0.0 in cc

  pub place-step : (c : Position) (w : Wire M) → Allows sends last c w → place c ≤ place (move c w)
  place-step c (Payload q x) a = let no : c.paid ≡ false = a.3 in rw no (omega arith)
  place-step c (Ack q) a = omega arith
  place-step c (Safe q) a = bit_le c
    where
      bit_le : (c : Position) → 2 * c.safes + bit c.paid ≤ 2 * suc c.safes + 0
      bit_le c = elim c.paid as (λ b. 2 * c.safes + bit b ≤ 2 * suc c.safes + 0) [ true ↦ omega arith | false ↦ omega arith ]
  place-step c Close a = omega arith

  pub place-grows : (c : Position) (ws : List (Wire M)) → Follows sends last c ws → place c ≤ place (moves c ws)
  place-grows c [] g = omega arith
  place-grows c (w ∷ ws) g = omega (arith, place-step c w g.0, place-grows (move c w) ws g.1)

  -- the payloads that came are those of the sent_pulses passed
  pub payloads_to-step : (c : Position) (w : Wire M) → Allows sends last c w → payloads_to sends c ++ payloads_of (w ∷ []) ≡ payloads_to sends (move c w)
  payloads_to-step c (Payload q x) a = let no : c.paid ≡ false = a.3 in rw (no, a.1, append-nil)
  payloads_to-step c (Ack q) a = append-nil _
  payloads_to-step c (Safe q) a =
      let same : c.paid ≡ is_some (sends c.safes) = subst (λ n. c.paid ≡ is_some (sends n)) a.1 a.2 in
      append-nil _ ∙ ap (λ l. sent_pulses sends c.safes ++ l) (mark_is c.safes c.paid (sends c.safes) same) ∙ sym (append-nil _)
    where
      mark_is : (q : ℕ) (p : Bool) (o : Option M) → p ≡ is_some o → (if p then q ∷ [] else []) ≡ sent_pulse q o
      mark_is q p None e = rw e
      mark_is q p (Some x) e = rw e
  payloads_to-step c Close a = append-nil _

  pub payloads_to-grows : (c : Position) (ws : List (Wire M)) → Follows sends last c ws → payloads_to sends c ++ payloads_of ws ≡ payloads_to sends (moves c ws)
  payloads_to-grows c [] g = append-nil _
  payloads_to-grows c (w ∷ ws) g =
      ap (λ l. payloads_to sends c ++ l) (payloads-append (w ∷ []) ws) ∙ sym (append_assoc (payloads_to sends c) (payloads_of (w ∷ [])) (payloads_of ws))
      ∙ ap (λ l. l ++ payloads_of ws) (payloads_to-step c w g.0) ∙ payloads_to-grows (move c w) ws g.1

  -- how many wires lie between two places
  pub length-counts : (c : Position) (ws : List (Wire M)) → Follows sends last c ws
      → length ws + c.safes + bit c.closed ≡ length (payloads_of ws) + length (acks_of ws) + (moves c ws).safes + bit (moves c ws).closed
  length-counts c [] g = omega arith
  length-counts c (Payload q x ∷ ws) g = omega (arith, length-counts (move c (Payload q x)) ws g.1)
  length-counts c (Ack q ∷ ws) g = omega (arith, length-counts c ws g.1)
  length-counts c (Safe q ∷ ws) g = omega (arith, length-counts (move {M = M} c (Safe q)) ws g.1)
  length-counts c (Close ∷ ws) g = let no : c.closed ≡ false = g.0.0 in rw no (omega (arith, length-counts (move {M = M} c Close) ws g.1))
