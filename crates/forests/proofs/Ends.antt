-- The roles of the two ends of an edge.
use Rattle.std.proofs.Common.{◌≡◌, ◌≢◌, ◌↔◌, ℕ, ◌<◌, ◌≤◌, Bool, true, false, refl, ap, sym, ◌∙◌, arith, subst, Some, inl, inr}
use Rattle.std.specs.Prelude.{if◌then◌else◌, nat_lt}
use Rattle.std.specs.List.{Contains}
use Rattle.std.proofs.lemmas.Bool.{cases_order, ltb-true, ltb-false, lt-ltb, le-ltb}
use Rattle.interference.specs.Net.{Net, IsNetwork, IsVertex, id_of, neighbours, forest_count_of}
use Rattle.interference.proofs.Neighbours.{both-ways, neighbour-is_vertex, neighbour-id, port-of}
use Rattle.forests.specs.Forests.{parent, number, role_of}
use Rattle.forests.specs.declared.numbering.Role.TheVariants.{Unknown, Up, Down}
use Rattle.forests.proofs.Parents.{parent-higher, number-parent, parent-number, parent-below, number-swap}

role_if_up : (b : Bool) (x f : ℕ) → (if b then Up x else Down x) ≡ Up f → (b ≡ true) × (x ≡ f)
role_if_up true x f e = (refl, cc)
role_if_up false x f e = absurd (cc)

role_if_down : (b : Bool) (x f : ℕ) → (if b then Up x else Down x) ≡ Down f → (b ≡ false) × (x ≡ f)
role_if_down true x f e = absurd (cc)
role_if_down false x f e = (refl, cc)

pub up-role : (net : Net) (v w f : ℕ) → role_of net v w ≡ Up f → (id_of net v < id_of net w) × (number net v w ≡ f)
unfolding role_of
up-role net v w f e =
    let both : (nat_lt (id_of net v) (id_of net w) ≡ true) × (number net v w ≡ f) = role_if_up (nat_lt (id_of net v) (id_of net w)) (number net v w) f e in
    (ltb-true (id_of net v) (id_of net w) both.0, both.1)

pub down-role : (net : Net) (v w f : ℕ) → role_of net v w ≡ Down f → (id_of net w ≤ id_of net v) × (number net v w ≡ f)
unfolding role_of
down-role net v w f e =
    let both : (nat_lt (id_of net v) (id_of net w) ≡ false) × (number net v w ≡ f) = role_if_down (nat_lt (id_of net v) (id_of net w)) (number net v w) f e in
    (ltb-false (id_of net v) (id_of net w) both.0, both.1)

pub to-up : (net : Net) (v w : ℕ) → id_of net v < id_of net w → role_of net v w ≡ Up (number net v w)
unfolding role_of
to-up net v w h = let e : nat_lt (id_of net v) (id_of net w) ≡ true = lt-ltb (id_of net v) (id_of net w) h in
    ap (λ (b : Bool). if b then Up (number net v w) else Down (number net v w)) e

pub to-down : (net : Net) (v w : ℕ) → id_of net w ≤ id_of net v → role_of net v w ≡ Down (number net v w)
unfolding role_of
to-down net v w h = let e : nat_lt (id_of net v) (id_of net w) ≡ false = le-ltb (id_of net v) (id_of net w) h in
    ap (λ (b : Bool). if b then Up (number net v w) else Down (number net v w)) e

role_if_known : (b : Bool) (x : ℕ) → (if b then Up x else Down x) ≡ Unknown → ⊥
role_if_known true x e = absurd (cc)
role_if_known false x e = absurd (cc)

pub role-known : (net : Net) (v w : ℕ) → role_of net v w ≢ Unknown
unfolding role_of
role-known net v w e = role_if_known (nat_lt (id_of net v) (id_of net w)) (number net v w) e

module _ (net : Net) (ok : IsNetwork net) (v w : ℕ) (vertex : IsVertex net v) (has : Contains (neighbours net v) w) where
  pub ends-apart : id_of net w ≢ id_of net v
  ends-apart = let (port, below, is) = port-of net ok v w has in subst (λ (u : ℕ). id_of net u ≢ id_of net v) is (neighbour-id net ok v port vertex below)

  pub number-alike : number net v w ≡ number net w v
  number-alike = number-swap net v w (λ e. ends-apart (sym e))

  pub up-parent : (f : ℕ) → (role_of net v w ≡ Up f) ↔ (parent net f v ≡ Some w)
  up-parent f = (
    λ e. let both : (id_of net v < id_of net w) × (number net v w ≡ f) = up-role net v w f e in ap (λ g. parent net g v) (sym both.1) ∙
        number-parent net ok v vertex w has both.0,
    λ e. to-up net v w (parent-higher net f v w e) ∙ ap (λ g. Up g) (sym (parent-number net ok v vertex f w e)),
  )

  pub down-parent : (f : ℕ) → (role_of net v w ≡ Down f) ↔ (parent net f w ≡ Some v)
  down-parent f = (
    λ e.
        let both : (id_of net w ≤ id_of net v) × (number net v w ≡ f) = down-role net v w f e in
        let ne : id_of net w ≢ id_of net v = ends-apart in
        ap (λ g. parent net g w) (sym both.1 ∙ number-alike) ∙ number-parent net ok w (neighbour-is_vertex net ok v w vertex has) v
        (both-ways net ok v w vertex has) (omega (arith, both.0, ne)),
    λ e.
        let above : id_of net w < id_of net v = parent-higher net f w v e in
        to-down net v w (omega arith) ∙ ap (λ g. Down g) (number-alike ∙ sym (parent-number net ok w (neighbour-is_vertex net ok v w vertex has) f v e)),
  )

  pub number-below : number net v w < forest_count_of net
  number-below =
      elim (cases_order (id_of net v) (id_of net w)) [
        | inl same ↦ absurd (ends-apart (sym same))
        | inr side ↦ elim side [
          | inl below ↦ parent-below net ok v vertex (number net v w) w (number-parent net ok v vertex w has below)
          | inr above ↦
              let other : IsVertex net w = neighbour-is_vertex net ok v w vertex has in
              subst (λ (f : ℕ). f < forest_count_of net) (sym number-alike)
              (parent-below net ok w other (number net w v) v (number-parent net ok w other v (both-ways net ok v w vertex has) above))
        ]
      ]
