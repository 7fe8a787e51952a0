-- The first refusal is that of the least port that breaks a rule. The plan: if the first ports break none, the look at
-- the ports has passed them (passed), so it stops at the least that breaks one (stops), and passes all if none does
-- (clears); which of the two it is a search decides (decide).
use Rattle.std.proofs.Common.{◌≡◌, ◌⊎◌, ℕ, zero, suc, ◌+◌, ◌<◌, ◌≤◌, List, [], ◌∷◌, length, refl, ap, sym, subst, ◌∙◌, arith, take, inl, inr}
use Rattle.std.specs.Prelude.{Option, Some, None}
use Rattle.std.specs.Option.{option_or}
use Rattle.std.proofs.lemmas.Bool.{cases_eq}
use Rattle.node_api.specs.Boxes.{at_port}
use Rattle.node_api.specs.declared.program.Refused.{Refused}
use Rattle.colour_rules.specs.declared.payload.Payload.{Payload}
use Rattle.colour_rules.specs.declared.payload.Payload.TheVariants.{Hello, Label, Colour, Chosen}
use Rattle.colour_rules.specs.declared.phase.Phase.{Phase}
use Rattle.colour_rules.specs.Node.{Node, ports}
use Rattle.colour_rules.specs.Refusals.{Looked, and_id, first_refusal, ids_in, own_rule, refusal, without_port}
use Rattle.colour_rules.proofs.Walking.{looked-end, looked-first, looked-more, looked-refused}
use Rattle.colour_laws.specs.FirstRefusal.{BreakNone, IsLeastBreaking, by_node, by_port, rule_at}

-- the identifiers that came, with one port more
id-cons : (n : ℕ) (ids : List ℕ) (slot : Option Payload) → and_id (n ∷ ids) slot ≡ n ∷ and_id ids slot
id-cons n ids None = refl
id-cons n ids (Some (Hello m)) = refl
id-cons n ids (Some (Label f)) = refl
id-cons n ids (Some (Colour c)) = refl
id-cons n ids (Some (Chosen c)) = refl

ids-first : (slot : Option Payload) (slots : List (Option Payload)) → and_id (ids_in (take 0 (slot ∷ slots))) slot ≡ ids_in (take 1 (slot ∷ slots))
ids-first None slots = refl
ids-first (Some (Hello n)) slots = refl
ids-first (Some (Label f)) slots = refl
ids-first (Some (Colour c)) slots = refl
ids-first (Some (Chosen c)) slots = refl

ids-more : (slots : List (Option Payload)) (k : ℕ) → k < length slots → and_id (ids_in (take k slots)) (at_port slots k) ≡ ids_in (take (suc k) slots)
ids-more [] k h = absurd (omega arith)
ids-more (slot ∷ slots) zero h = ids-first slot slots
ids-more (None ∷ slots) (suc k) h = ids-more slots k (omega arith)
ids-more (Some (Hello n) ∷ slots) (suc k) h = id-cons n (ids_in (take k slots)) (at_port slots k) ∙
    ap (λ (ids : List ℕ). n ∷ ids) (ids-more slots k (omega arith))
ids-more (Some (Label f) ∷ slots) (suc k) h = ids-more slots k (omega arith)
ids-more (Some (Colour c) ∷ slots) (suc k) h = ids-more slots k (omega arith)
ids-more (Some (Chosen c) ∷ slots) (suc k) h = ids-more slots k (omega arith)

-- the rule and the port of a refusal
abbrev rule_in : Option Refused → ℕ
rule_in None = 0
rule_in (Some refused) = refused.rule

abbrev port_in : Option Refused → Option ℕ
port_in None = None
port_in (Some refused) = refused.port

-- a refusal by the node itself has its rule, and no port
own-is : (rule : ℕ) (own : Option ℕ) → without_port own ≡ by_node rule → own ≡ Some rule
own-is rule None e = absurd (cc)
own-is rule (Some r) e = ap (λ (n : ℕ). Some n) (ap rule_in e)

own-no_port : (port rule : ℕ) (own : Option ℕ) → without_port own ≡ by_port port rule → ⊥
own-no_port port rule None e = absurd (cc)
own-no_port port rule (Some r) e = let none : None ≡ Some port = ap port_in e in absurd (cc)

own-none : (own : Option ℕ) → without_port own ≡ None → own ≡ None
own-none None e = refl
own-none (Some r) e = absurd (cc)

module _ (node : Node) (phase : Phase) (slots : List (Option Payload)) (same : length slots ≡ ports node) where
  passed : (k : ℕ) → k ≤ ports node → BreakNone node phase slots k → Looked node phase slots k (ids_in (take k slots))
  passed zero h none = looked-first node phase slots same
  passed (suc k) h none =
      let before : Looked node phase slots k (ids_in (take k slots)) = passed k (omega arith) (λ j l. none j (omega arith)) in
      let more : Looked node phase slots (k + 1) (and_id (ids_in (take k slots)) (at_port slots k)) =
      looked-more node phase slots same k (ids_in (take k slots)) (omega arith) (none k (omega arith)) before in
      subst (λ (ids : List ℕ). Looked node phase slots (suc k) ids) (ids-more slots k (omega arith))
      (subst (λ (n : ℕ). Looked node phase slots n (and_id (ids_in (take k slots)) (at_port slots k))) (let e : k + 1 ≡ suc k = omega arith in e) more)

  stops : (port rule : ℕ) → IsLeastBreaking node phase slots port rule → first_refusal node phase slots ≡ by_port port rule
  stops port rule is =
      looked-refused node phase slots same port rule (ids_in (take port slots)) is.within is.breaks (passed port (let h = is.within in omega arith) is.least)

  clears : BreakNone node phase slots (ports node) → first_refusal node phase slots ≡ None
  clears none = (looked-end node phase slots same (ids_in (take (ports node) slots)) (passed (ports node) (omega arith) none)).0

  -- whether the first n ports break none, or which of them is the least that breaks one
  abbrev Decided : ℕ → Type 0
  Decided n = BreakNone node phase slots n ⊎ ((port : ℕ) × (rule : ℕ) × IsLeastBreaking node phase slots port rule)

  decide-one : (n : ℕ) → n < ports node → BreakNone node phase slots n → (rule : Option ℕ) → rule_at node phase slots n ≡ rule → Decided (suc n)
  decide-one n h none None e =
      inl (λ k l. elim (cases_eq k n) [ inl is ↦ ap (rule_at node phase slots) is ∙ e | inr other ↦ none k (omega arith) ])
  decide-one n h none (Some rule) e = inr (n, rule, record { within = h; breaks = e; least = none })

  decide : (n : ℕ) → n ≤ ports node → Decided n
  decide zero h = inl (λ k l. absurd (omega arith))
  decide (suc n) h =
      elim (decide n (omega arith)) [
        | inl none ↦ decide-one n (omega arith) none (rule_at node phase slots n) refl
        | inr found ↦ inr found
      ]

  abbrev own : Option Refused
  own = without_port (own_rule node phase slots)

  pub port-is : (port rule : ℕ) → refusal node phase slots ≡ by_port port rule → IsLeastBreaking node phase slots port rule
  port-is port rule refused =
      elim (decide (ports node) (omega arith)) [
        | inl none ↦ absurd (own-no_port port rule (own_rule node phase slots) (ap (λ (x : Option Refused). option_or x own) (sym (clears none)) ∙ refused))
        | inr found ↦
            let is : by_port found.0 found.1 ≡ by_port port rule = ap (λ (x : Option Refused). option_or x own) (sym (stops found.0 found.1 found.2)) ∙
            refused in
            let at : found.0 ≡ port = (let same : Some found.0 ≡ Some port = ap port_in is in cc) in
            let by : found.1 ≡ rule = ap rule_in is in
            subst (λ (p : ℕ). IsLeastBreaking node phase slots p rule) at (subst (λ (r : ℕ). IsLeastBreaking node phase slots found.0 r) by found.2)
      ]

  pub is-port : (port rule : ℕ) → IsLeastBreaking node phase slots port rule → refusal node phase slots ≡ by_port port rule
  is-port port rule is = ap (λ (x : Option Refused). option_or x own) (stops port rule is)

  pub node-is : (rule : ℕ) → refusal node phase slots ≡ by_node rule → BreakNone node phase slots (ports node) × (own_rule node phase slots ≡ Some rule)
  node-is rule refused =
      elim (decide (ports node) (omega arith)) [
        | inl none ↦ (none, own-is rule (own_rule node phase slots) (ap (λ (x : Option Refused). option_or x own) (sym (clears none)) ∙ refused))
        | inr found ↦ let is : by_port found.0 found.1 ≡ by_node rule = ap (λ (x : Option Refused). option_or x own) (sym (stops found.0 found.1 found.2)) ∙
            refused in
            let none : Some found.0 ≡ None = ap port_in is in
            absurd (cc)
      ]

  pub is-node : (rule : ℕ) → BreakNone node phase slots (ports node) × (own_rule node phase slots ≡ Some rule) → refusal node phase slots ≡ by_node rule
  is-node rule is = ap (λ (x : Option Refused). option_or x own) (clears is.0) ∙ ap without_port is.1

  pub none-is : refusal node phase slots ≡ None → BreakNone node phase slots (ports node) × (own_rule node phase slots ≡ None)
  none-is fine =
      elim (decide (ports node) (omega arith)) [
        | inl none ↦ (none, own-none (own_rule node phase slots) (ap (λ (x : Option Refused). option_or x own) (sym (clears none)) ∙ fine))
        | inr found ↦ let is : by_port found.0 found.1 ≡ None = ap (λ (x : Option Refused). option_or x own) (sym (stops found.0 found.1 found.2)) ∙ fine in
            absurd (cc)
      ]

  pub is-none : BreakNone node phase slots (ports node) × (own_rule node phase slots ≡ None) → refusal node phase slots ≡ None
  is-none is = ap (λ (x : Option Refused). option_or x own) (clears is.0) ∙ ap without_port is.1
