-- Ports that brought a label become known, one payload after another.
use Rattle.std.proofs.Common.{◌≡◌, ℕ, zero, suc, ◌+◌, ◌<◌, ◌≤◌, List, [], ◌∷◌, length, refl, ap, sym, ◌∙◌, arith, get_or, subst, inl, inr}
use Rattle.std.specs.Prelude.{Option, Some, None, slice_set}
use Rattle.std.proofs.lemmas.Bool.{cases_eq}
use Rattle.std.proofs.lemmas.List.{ext_get_or, get_or-set_other, get_or-set_same, get_or_read, length-set}
use native.Mathlib.Decide.{dec_lt}
use Prim.{yes, no}
use Rattle.node_api.specs.Boxes.{Mail, Reads, HasFrom, at_port}
use Rattle.forests.specs.declared.numbering.Role.{Role}
use Rattle.forests.specs.declared.numbering.Role.TheVariants.{Unknown, Up, Down}
use Rattle.colour_rules.specs.declared.payload.Payload.{Payload}
use Rattle.colour_rules.specs.declared.payload.Payload.TheVariants.{Hello, Label, Colour, Chosen}
use Rattle.colour_rules.specs.Node.{HasForests, IsIn}
use Rattle.colour_rules.specs.Program.{role_after_seed, all_labelled}
use Rattle.colour_rules.proofs.Hearing.{none-past}
use Rattle.colour_rules.proofs.KeptPorts.{length-labelled}

-- The payloads of the ports before the cursor have been taken in, the others not yet.
pub record Labelled (old : List Role) (slots : List (Option Payload)) (cursor : ℕ) (now : List Role) : Type 0 where
  pub size : length now ≡ length old
  pub before : (k : ℕ) → k < cursor → get_or now k Unknown ≡ role_after_seed (get_or old k Unknown) (at_port slots k)
  pub after : (k : ℕ) → cursor ≤ k → get_or now k Unknown ≡ get_or old k Unknown

-- before the first payload nothing is taken in
pub labelled-start : (old now : List Role) (slots : List (Option Payload)) (cursor : ℕ) → now ≡ old → cursor ≡ 0 → Labelled old slots cursor now
labelled-start old now slots cursor same start =
    record {
      size = ap length same;
      before = λ k h. absurd (omega arith);
      after = λ k h. ap (λ roles. get_or roles k Unknown) same;
    }

-- a port that brought nothing stays
by_nothing : (role : Role) → role_after_seed role None ≡ role
by_nothing Unknown = refl
by_nothing (Up f) = refl
by_nothing (Down f) = refl

stays : (role : Role) (slot : Option Payload) → slot ≡ None → role ≡ role_after_seed role slot
stays role slot none = sym (ap (role_after_seed role) none ∙ by_nothing role)

module _ (old : List Role) (slots : List (Option Payload)) (now : List Role) where
  -- one payload more is taken in
  pub labelled-read : (mail new : Mail Payload) (payload : Payload) (k : ℕ) (role : Role) → Labelled old slots mail.cursor now → mail.slots ≡ slots →
      length slots ≡ length old → Reads mail payload new → k + 1 ≡ new.cursor → role ≡ get_or now k role →
      Labelled old slots new.cursor (slice_set now k (role_after_seed role (Some payload)))
  labelled-read mail new payload k role l same ports reads at read =
      let here : k < length now = omega (arith, reads.later, reads.within, l.size, ap (λ (s : List (Option Payload)). length s) same) in
      let from : mail.cursor ≤ k = omega (arith, reads.later) in
      let slot : at_port slots k ≡ Some payload = ap (λ (s : List (Option Payload)). at_port s k) (sym same) ∙ reads.here k at in
      let was : role ≡ get_or old k Unknown = get_or_read now k role here read Unknown ∙ l.after k from in
      record {
        size = length-set now k _ ∙ l.size;
        before = λ j h.
            elim (cases_eq j k) [
              | inl is ↦ rw is (get_or-set_same now k _ Unknown here ∙
                  (ap (λ (r : Role). role_after_seed r (Some payload)) was ∙ ap (role_after_seed (get_or old k Unknown)) (sym slot)))
              | inr other ↦
                  get_or-set_other now k j _ Unknown other
                  ∙ elim (dec_lt j mail.cursor) [
                    | yes read ↦ l.before j read
                    | no later ↦
                        let none : at_port slots j ≡ None = ap (λ (s : List (Option Payload)). at_port s j) (sym same) ∙
                        reads.first j (omega arith) (omega arith) in
                        l.after j (omega arith) ∙ stays (get_or old j Unknown) (at_port slots j) none
                  ]
            ];
        after = λ j h. get_or-set_other now k j _ Unknown (omega arith) ∙ l.after j (omega arith);
      }

at_labelled : (roles : List Role) (slots : List (Option Payload)) (k : ℕ) → length slots ≡ length roles → k < length roles →
    get_or (all_labelled roles slots) k Unknown ≡ role_after_seed (get_or roles k Unknown) (at_port slots k)
at_labelled [] slots k e h = absurd (omega arith)
at_labelled (role ∷ roles) [] k e h = absurd (omega arith)
at_labelled (role ∷ roles) (slot ∷ slots) zero e h = refl
at_labelled (role ∷ roles) (slot ∷ slots) (suc k) e h = at_labelled roles slots k (omega arith) (omega arith)

-- where nothing is left to be read, every port has been labelled
pub labelled-all : (old : List Role) (slots : List (Option Payload)) (cursor : ℕ) (now : List Role) → Labelled old slots cursor now →
    length slots ≡ length old → (HasFrom slots cursor → ⊥) → now ≡ all_labelled old slots
labelled-all old slots cursor now l ports end =
    ext_get_or Unknown now (all_labelled old slots) (l.size ∙ sym (length-labelled old slots ports))
    (λ k h.
    elim (dec_lt k cursor) [
      | yes read ↦ l.before k read
      | no later ↦ l.after k (omega arith) ∙ stays (get_or old k Unknown) (at_port slots k) (none-past slots cursor end k (omega arith) (omega (arith, l.size)))
    ]
    ∙ sym (at_labelled old slots k ports (omega (arith, l.size))))

stays_in : (n : ℕ) (role : Role) (slot : Option Payload) → IsIn n role → ((f : ℕ) → slot ≡ Some (Label f) → f < n) → IsIn n (role_after_seed role slot)
stays_in n Unknown None h small = tt
stays_in n Unknown (Some (Hello id)) h small = tt
stays_in n Unknown (Some (Label f)) h small = small f refl
stays_in n Unknown (Some (Colour c)) h small = tt
stays_in n Unknown (Some (Chosen c)) h small = tt
stays_in n (Up f) slot h small = h
stays_in n (Down f) slot h small = h

-- every label that came names one of the forests, and so every port does
pub labelled-in : (n : ℕ) (roles : List Role) (slots : List (Option Payload)) → length slots ≡ length roles → HasForests n roles →
    ((port f : ℕ) → at_port slots port ≡ Some (Label f) → f < n) → HasForests n (all_labelled roles slots)
labelled-in n roles slots ports in_forests small port h =
    let within : port < length roles = omega (arith, length-labelled roles slots ports) in
    subst (IsIn n) (sym (at_labelled roles slots port ports within)) (stays_in n (get_or roles port Unknown) (at_port slots port) (in_forests port within)
    (small port))
