-- The role of a port, from where its identifier stands among the higher ones in order.
use Rattle.std.proofs.Common.{◌≡◌, ℕ, Bool, true, false, List, refl, ap, sym, ◌∙◌, subst}
use Rattle.std.specs.Prelude.{if◌then◌else◌, filter, nat_lt}
use Rattle.std.specs.List.{Contains}
use Rattle.std.proofs.lemmas.List.Sorted.{Contains-permutation, IsPermutation-sym}
use Rattle.interference.specs.Net.{place_of}
use Rattle.forests.specs.Order.{in_order}
use Rattle.forests.specs.Forests.{role_by}
use Rattle.forests.specs.declared.numbering.Role.{Role}
use Rattle.forests.specs.declared.numbering.Role.TheVariants.{Unknown, Up}
use Rattle.forests.proofs.Orders.{order-moves}
use Rattle.interference.proofs.Members.{Contains-filter, passes-from_filter}

role_if : (b : Bool) (f : ℕ) (role : Role) → (b ≡ true → role ≡ Up f) → (b ≡ false → role ≡ Unknown) → role ≡ (if b then Up f else Unknown)
role_if true f role up unknown = up refl
role_if false f role up unknown = unknown refl

not_both : (b : Bool) → b ≡ true → b ≡ false → ⊥
not_both b t f = absurd (let e : true ≡ false = sym t ∙ f in cc)

pub role-is : (own : ℕ) (ids : List ℕ) (id : ℕ) (above : List ℕ) (role : Role) → above ≡ in_order (λ i. i) (filter (nat_lt own) ids) → Contains ids id →
    (Contains above id → role ≡ Up (place_of id above)) → ((Contains above id → ⊥) → role ≡ Unknown) → role ≡ role_by own ids id
unfolding role_by
role-is own ids id above role same has up unknown =
    let ordered : List ℕ = in_order (λ i. i) (filter (nat_lt own) ids) in
    role_if (nat_lt own id) (place_of id ordered) role
    (λ higher. up (subst (λ xs. Contains xs id) (sym same) (Contains-permutation (filter (nat_lt own) ids) ordered id
    (order-moves (λ i. i) (filter (nat_lt own) ids)) (Contains-filter (nat_lt own) ids id has higher))) ∙ ap (λ xs. Up (place_of id xs)) same)
    (λ lower. unknown (λ in_it. not_both (nat_lt own id) (passes-from_filter (nat_lt own) ids id (Contains-permutation ordered (filter (nat_lt own) ids) id
    (IsPermutation-sym (filter (nat_lt own) ids) ordered (order-moves (λ i. i) (filter (nat_lt own) ids))) (subst (λ xs. Contains xs id) same in_it)))
    lower))
