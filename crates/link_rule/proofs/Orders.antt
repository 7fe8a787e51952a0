-- Lists in order: their beginnings, and one wire more.
use Rattle.std.proofs.Common.{◌≡◌, ℕ, suc, zero, ◌+◌, List, [], ◌∷◌, ◌++◌, refl, sym, ap, arith, subst, ◌⊎◌, inl, inr, ⊎_elim}
use Rattle.std.specs.Prelude.{Contains}
use Rattle.std.proofs.lemmas.List.Elements.{Contains-append_cases}
use Rattle.wires.specs.declared.wire.Wire.{Wire}
use Rattle.wires.specs.declared.wire.Wire.TheVariants.{Payload, Ack, Safe, Close}
use Rattle.wires.specs.Wires.{safes_of}
use Rattle.link_rule.specs.Order.{MayFollow, IsInOrder}

module _ {A : Type 0} where
  pub contains_nil : (x : A) → Contains [] x → ⊥
  contains_nil x (k, lt, e) = absurd (omega arith)

  pub contains_one : (x y : A) → Contains (x ∷ []) y → x ≡ y
  contains_one x y (zero, lt, e) = e
  contains_one x y (suc k, lt, e) = absurd (omega arith)

  pub contains_snoc : (xs : List A) (x y : A) → Contains (xs ++ x ∷ []) y → Contains xs y ⊎ (x ≡ y)
  contains_snoc xs x y c = ⊎_elim (λ a. inl a) (λ b. inr (contains_one x y b)) (Contains-append_cases xs (x ∷ []) y c)

  -- where a member stands in a list with one more at its end
  pub data Split (ws before after : List A) (w v : A) : Type 0 where
    at_end : before ≡ ws → v ≡ w → after ≡ [] → Split ws before after w v
    before_end : (rest : List A) → ws ≡ before ++ (v ∷ rest) → Split ws before after w v

  pub split_of : (ws before after : List A) (w v : A) → ws ++ w ∷ [] ≡ before ++ (v ∷ after) → Split ws before after w v
  split_of [] [] after w v e = let same : w ≡ v = cc in let none : [] ≡ after = cc in at_end refl (sym same) (sym none)
  split_of [] (b ∷ []) after w v e = absurd cc
  split_of [] (b ∷ c ∷ bs) after w v e = absurd cc
  split_of (x ∷ ws) [] after w v e = let same : x ≡ v = cc in before_end ws (ap (λ y. y ∷ ws) same)
  split_of (x ∷ ws) (b ∷ bs) after w v e = (let tail : ws ++ w ∷ [] ≡ bs ++ (v ∷ after) = cc in more (split_of ws bs after w v tail))
    where
      more : Split ws bs after w v → Split (x ∷ ws) (b ∷ bs) after w v
      more (at_end p q r) = let same : b ≡ x = cc in at_end (rw (same, p) refl) q r
      more (before_end rest p) = let same : x ≡ b = cc in before_end rest (rw (same, p) refl)

module _ {M : Type 0} (top : ℕ) where
  pub order-more : (ws : List (Wire M)) (w : Wire M) → IsInOrder top ws → (Contains ws Close → ⊥) → MayFollow top ws w → IsInOrder top (ws ++ w ∷ [])
  order-more ws w h open' may before v after e = go (split_of ws before after w v e)
    where
      go : Split ws before after w v → (Contains before Close → ⊥) × MayFollow top before v
      go (at_end p q r) = subst (λ l. (Contains l Close → ⊥) × MayFollow top l v) (sym p) (open', subst (λ x. MayFollow top ws x) (sym q) may)
      go (before_end rest p) = h before v rest p

  pub order-last : (ws : List (Wire M)) (w : Wire M) → IsInOrder top (ws ++ w ∷ []) → (Contains ws Close → ⊥) × MayFollow top ws w
  order-last ws w h = h ws w [] refl

  pub order-nil : IsInOrder {M = M} top []
  order-nil [] w after e = absurd cc
  order-nil (b ∷ before) w after e = absurd cc

module _ {M : Type 0} where
  pub safes-append : (xs ys : List (Wire M)) → safes_of (xs ++ ys) ≡ safes_of xs + safes_of ys
  safes-append [] ys = omega arith
  safes-append (Payload q x ∷ xs) ys = safes-append xs ys
  safes-append (Ack q ∷ xs) ys = safes-append xs ys
  safes-append (Safe q ∷ xs) ys = let more = safes-append xs ys in omega arith
  safes-append (Close ∷ xs) ys = safes-append xs ys
