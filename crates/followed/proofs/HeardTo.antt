-- What the first program hears of an inbox of both, payload by payload.
use Rattle.std.proofs.Common.{◌≡◌, ◌≢◌, ℕ, ◌+◌, ◌<◌, ◌≤◌, List, length, refl, ap, sym, ◌∙◌, arith}
use Rattle.std.specs.Prelude.{map, Option, Some, None, IsSome}
use Rattle.std.proofs.lemmas.List.{ext_get_or, get_or-map, length-map}
use Rattle.std.proofs.lemmas.Bool.{cases_eq}
use Rattle.std.proofs.Common.{inl, inr}
use native.Mathlib.Decide.{dec_lt}
use Prim.{yes, no}
use Rattle.node_api.specs.Boxes.{Mail, Reads, HasFrom, at_port, unread}
use Rattle.followed.specs.declared.said.Said.{Said}
use Rattle.followed.specs.Said.{first_of, firsts}

-- The payloads at the ports before i have been heard, the others not.
pub record HeardTo {A B : Type 0} (slots : List (Option (Said A B))) (own : List (Option A)) (i : ℕ) : Type 0 where
  pub size : length own ≡ length slots
  pub before : (k : ℕ) → k < i → at_port own k ≡ first_of (at_port slots k)
  pub after : (k : ℕ) → i ≤ k → at_port own k ≡ None

-- an inbox of these payloads that is read from its first port
pub mail-is : {M : Type 0} (mail : Mail M) (slots : List (Option M)) → mail.slots ≡ slots → mail.cursor ≡ 0 → mail ≡ unread slots
mail-is {M = M} mail slots e start =
    ap (λ (s : List (Option M)). record { slots = s; cursor = mail.cursor }) e ∙ ap (λ (n : ℕ). record { slots = slots; cursor = n }) start

module _ {A B : Type 0} where
  -- one payload more
  pub heard-more : (slots : List (Option (Said A B))) (own new : List (Option A)) (old after : Mail (Said A B)) (x : Said A B) (port : ℕ) →
      old.slots ≡ slots → HeardTo slots own old.cursor → Reads old x after → port + 1 ≡ after.cursor → length new ≡ length own →
      at_port new port ≡ first_of (Some x) → ((k : ℕ) → k ≢ port → at_port new k ≡ at_port own k) → HeardTo slots new after.cursor
  heard-more slots own new old after x port same heard reads is size here others = record {
    size = size ∙ heard.size;
    before = λ k low. elim (cases_eq k port) [
      | inl at ↦
          let there : at_port slots port ≡ Some x = ap (λ (s : List (Option (Said A B))). at_port s port) (sym same) ∙ reads.here port is in
          ap (at_port new) at ∙ (here ∙ sym (ap first_of (ap (at_port slots) at ∙ there)))
      | inr other ↦ elim (dec_lt k old.cursor) [
        | yes early ↦ others k other ∙ heard.before k early
        | no late ↦
            let none : at_port slots k ≡ None = ap (λ (s : List (Option (Said A B))). at_port s k) (sym same) ∙
            reads.first k (omega arith) (let below : k < port = omega (arith, is, low, other) in omega (arith, is, below)) in
            others k other ∙ (heard.after k (omega arith) ∙ sym (ap first_of none))
      ]
    ];
    after = λ k high. others k (let past : port < k = omega (arith, is, high) in omega arith) ∙ heard.after k (omega (arith, reads.later, high));
  }

  none_unless : (slot : Option (Said A B)) → (IsSome slot → ⊥) → slot ≡ None
  none_unless None h = refl
  none_unless (Some x) h = absurd (h refl)

  -- and nothing more to be heard
  pub heard-all : (slots : List (Option (Said A B))) (own : List (Option A)) (mail : Mail (Said A B)) → mail.slots ≡ slots → HeardTo slots own mail.cursor →
      (HasFrom mail.slots mail.cursor → ⊥) → own ≡ firsts slots
  heard-all slots own mail same heard quiet =
      ext_get_or None own (map first_of slots) (heard.size ∙ sym (length-map slots first_of))
      (λ k h.
      let within : k < length slots = omega (arith, heard.size, h) in
      let there : at_port (map first_of slots) k ≡ first_of (at_port slots k) = get_or-map first_of slots k None None within in
      elim (dec_lt k mail.cursor) [
        | yes early ↦ heard.before k early ∙ sym there
        | no late ↦
            let none : at_port slots k ≡ None = ap (λ (s : List (Option (Said A B))). at_port s k) (sym same) ∙
            none_unless (at_port mail.slots k) (λ some. quiet
            (k, omega arith, (let size : length mail.slots ≡ length slots = ap (λ (s : List (Option (Said A B))). length s) same in omega arith), some)) in
            heard.after k (omega arith) ∙ sym (there ∙ ap first_of none)
      ])
