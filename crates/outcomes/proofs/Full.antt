-- What nodes whose stamps are few have set aside, and what they remember.
use Rattle.std.proofs.Common.{◌≡◌, ℕ, ◌+◌, ◌^◌, ◌<◌, ◌≤◌, List, None, Some, refl, ap, ◌∙◌, arith, get_or}
use Rattle.std.specs.Prelude.{All, Option, max}
use Rattle.wired_nodes.specs.declared.aside.Aside.{Aside}
use Rattle.wired_nodes.specs.declared.aside.WhyAside.{WhyAside}
use Rattle.wired_nodes.specs.declared.aside.WhyAside.TheVariants.{Refused, StampFull}
use Rattle.wired_nodes.specs.declared.refused.TurnRefused.{TurnRefused}
use Rattle.wired_nodes.specs.declared.refused.TurnRefused.TheVariants as refused
use Rattle.wired_nodes.specs.HasStamps.{aside_stamp, stamp_of_why}
use Rattle.wired_nodes.specs.Remembered.{RemembersFull}
use Rattle.outcomes.specs.Full.{HasStampLeft}

-- a node that has a stamp left has set no wire aside for its stamp
not_for_its_stamp : {M : Type 0} (counter : ℕ) (aside : Option (Aside M)) (x : Aside M) → HasStampLeft counter aside → aside ≡ Some x
    → ((s : ℕ) → x.why ≡ StampFull s → 2 ^ 64 ≤ max counter s + 1) → x.why ≡ Refused
not_for_its_stamp counter aside x left e full = by_why x.why refl
  where
    by_why : (why : WhyAside) → x.why ≡ why → x.why ≡ Refused
    by_why Refused same = same
    by_why (StampFull s) same =
        let came : aside_stamp aside ≡ s = ap (λ o. aside_stamp o) e ∙ ap (λ w. stamp_of_why w) same in
        let past = full s same in
        absurd (omega (arith, left, came, past))

-- a turn can be refused memory or a stamp, and nothing else
neither : (refusal : Option TurnRefused) → (refusal ≡ Some refused.Memory → ⊥) → (refusal ≡ Some refused.StampFull → ⊥) → refusal ≡ None
neither None memory full = refl
neither (Some refused.Memory) memory full = absurd (memory refl)
neither (Some refused.StampFull) memory full = absurd (full refl)

module _ {A M : Type 0} (counter : A → ℕ) (aside : A → Option (Aside M)) (nodes : List A) where
  pub all_left : (most : ℕ) → most < 2 ^ 60 → All (λ a. max (counter a) (aside_stamp (aside a)) ≤ most) nodes
      → All (λ a. HasStampLeft (counter a) (aside a)) nodes
  all_left most few within k d lt = let le = within k d lt in omega (arith, le, few)

  module _ (left : All (λ a. HasStampLeft (counter a) (aside a)) nodes) where
    -- each wire that was set aside was refused
    pub all_refused : ((a : A) (x : Aside M) → aside a ≡ Some x → (s : ℕ) → x.why ≡ StampFull s → 2 ^ 64 ≤ max (counter a) s + 1)
        → All (λ a. (x : Aside M) → aside a ≡ Some x → x.why ≡ Refused) nodes
    all_refused full k d lt x e =
        let a = get_or nodes k d in
        not_for_its_stamp (counter a) (aside a) x (left k d lt) e (λ s why. full a x e s why)

    -- and no node remembers a stamp that would be too great; so none remembers a refusal if none remembers memory's
    pub none_refused : (refusal : A → Option TurnRefused) → ((a : A) → RemembersFull (refusal a) (counter a) (aside a))
        → All (λ a. refusal a ≡ Some refused.Memory → ⊥) nodes → All (λ a. refusal a ≡ None) nodes
    none_refused refusal remembers memory k d lt =
        let some = left k d lt in
        neither (refusal (get_or nodes k d)) (memory k d lt)
        (λ e. let past = remembers (get_or nodes k d) e in omega (arith, some, past))
