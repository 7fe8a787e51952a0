-- The ports looked at one after another: what is left of the look at them all.
use Rattle.std.proofs.Common.{◌≡◌, ℕ, zero, suc, ◌+◌, ◌-◌, ◌<◌, ◌≤◌, Bool, true, false, List, [], ◌∷◌, ◌++◌, length, refl, ap, sym, subst, ◌∙◌, arith, drop}
use Rattle.std.specs.Prelude.{if◌then◌else◌, Option, Some, None, slice_index_or}
use Rattle.std.proofs.lemmas.List.{drop_more, drop_all, append_assoc, append-nil}
use Rattle.node_api.specs.Boxes.{at_port}
use Rattle.node_api.specs.declared.program.Refused.{Refused}
use Rattle.forests.specs.declared.numbering.Role.{Role}
use Rattle.forests.specs.declared.numbering.Role.TheVariants.{Unknown}
use Rattle.colour_rules.specs.declared.payload.Payload.{Payload}
use Rattle.colour_rules.specs.declared.payload.Payload.TheVariants.{Hello, Label, Colour, Chosen}
use Rattle.colour_rules.specs.declared.phase.Phase.{Phase}
use Rattle.colour_rules.specs.declared.rules.TheConstants.{MISSING}
use Rattle.colour_rules.specs.Node.{Node, ports}
use Rattle.colour_rules.specs.Table.{is_due}
use Rattle.colour_rules.specs.Refusals.{IsFirstMissing, Looked, and_id, at_port_or, first_refusal, ids_in, port_rule, ports_refusal}

ids-next : (slot : Option Payload) (heard : List ℕ) (slots : List (Option Payload)) → heard ++ ids_in (slot ∷ slots) ≡ and_id heard slot ++ ids_in slots
ids-next None heard slots = refl
ids-next (Some (Hello n)) heard slots = sym (append_assoc heard (n ∷ []) (ids_in slots))
ids-next (Some (Label f)) heard slots = refl
ids-next (Some (Colour c)) heard slots = refl
ids-next (Some (Chosen c)) heard slots = refl

module _ (node : Node) (phase : Phase) (slots : List (Option Payload)) (same : length slots ≡ ports node) where
  abbrev role : ℕ → Role
  role port = slice_index_or node.roles port Unknown

  -- the look at a port and those after it
  look-on : (port : ℕ) (heard : List ℕ) → port < ports node → ports_refusal node phase port heard (drop port node.roles) (drop port slots)
      ≡ at_port_or (port_rule node heard phase (role port) (at_port slots port)) port (ports_refusal node phase (suc port) (and_id heard (at_port slots port))
      (drop (port + 1) node.roles) (drop (port + 1) slots))
  look-on port heard h =
      ap (λ (roles : List Role). ports_refusal node phase port heard roles (drop port slots)) (drop_more node.roles port Unknown h)
      ∙ ap (λ (rest : List (Option Payload)). ports_refusal node phase port heard (role port ∷ drop (port + 1) node.roles) rest)
      (drop_more slots port None (omega arith))

  pub looked-first : Looked node phase slots 0 []
  looked-first = record { rest = refl; came = refl }

  -- a port that breaks no rule is passed
  pub looked-more : (port : ℕ) (heard : List ℕ) → port < ports node → port_rule node heard phase (role port) (at_port slots port) ≡ None →
      Looked node phase slots port heard → Looked node phase slots (port + 1) (and_id heard (at_port slots port))
  looked-more port heard h none looked = record {
    rest = looked.rest ∙
        (look-on port heard h ∙ (ap (λ (rule : Option ℕ). at_port_or rule port (ports_refusal node phase (suc port) (and_id heard (at_port slots port))
        (drop (port + 1) node.roles) (drop (port + 1) slots))) none
        ∙ ap (λ (next : ℕ). ports_refusal node phase next (and_id heard (at_port slots port)) (drop (port + 1) node.roles) (drop (port + 1) slots))
        (let e : suc port ≡ port + 1 = omega arith in e)));
    came = sym (ids-next (at_port slots port) heard (drop (port + 1) slots)) ∙
        (ap (λ (rest : List (Option Payload)). heard ++ ids_in rest) (sym (drop_more slots port None (omega arith))) ∙ looked.came);
  }

  -- the first that breaks one is refused
  pub looked-refused : (port rule : ℕ) (heard : List ℕ) → port < ports node → port_rule node heard phase (role port) (at_port slots port) ≡ Some rule →
      Looked node phase slots port heard → first_refusal node phase slots ≡ Some record { rule = rule; port = Some port }
  looked-refused port rule heard h broken looked =
      looked.rest ∙ (look-on port heard h ∙ ap (λ (r : Option ℕ). at_port_or r port (ports_refusal node phase (suc port) (and_id heard (at_port slots port))
      (drop (port + 1) node.roles) (drop (port + 1) slots))) broken)

  none-rule : (heard : List ℕ) (r : Role) (slot : Option Payload) (due : Bool) → slot ≡ None → is_due phase r ≡ due →
      port_rule node heard phase r slot ≡ (if due then Some MISSING else None)
  none-rule heard r slot due empty e = rw (empty, e) refl

  -- ports that brought nothing, from which nothing is due, are passed
  pub looked-past : (gap port : ℕ) (heard : List ℕ) → port + gap ≤ ports node → ((q : ℕ) → port ≤ q → q < port + gap → at_port slots q ≡ None) →
      ((q : ℕ) → port ≤ q → q < port + gap → is_due phase (role q) ≡ false) → Looked node phase slots port heard → Looked node phase slots (port + gap) heard
  looked-past zero port heard h none undue looked = rw (let e : port + 0 ≡ port = omega arith in e) looked
  looked-past (suc gap) port heard h none undue looked =
      let empty : at_port slots port ≡ None = none port (omega arith) (omega arith) in
      let next : Looked node phase slots (port + 1) (and_id heard (at_port slots port)) =
      looked-more port heard (omega arith) (none-rule heard (role port) (at_port slots port) false empty (undue port (omega arith) (omega arith))) looked
      in
      let here : Looked node phase slots (port + 1) heard = rw (sym (ap (and_id heard) empty)) next in
      rw (let e : port + suc gap ≡ port + 1 + gap = omega arith in
      e) (looked-past gap (port + 1) heard (omega arith) (λ q low high. none q (omega arith) (omega arith))
      (λ q low high. undue q (omega arith) (omega arith)) here)

  -- the same to a port that is not before this one
  pub looked-to : (from to : ℕ) (heard : List ℕ) → from ≤ to → to ≤ ports node → ((q : ℕ) → from ≤ q → q < to → at_port slots q ≡ None) →
      ((q : ℕ) → from ≤ q → q < to → is_due phase (role q) ≡ false) → Looked node phase slots from heard → Looked node phase slots to heard
  looked-to from to heard low high none undue looked =
      rw (let e : to ≡ from + (to - from) = omega arith in e) (looked-past (to - from) from heard (omega arith) (λ q l h. none q l (omega arith))
      (λ q l h. undue q l (omega arith)) looked)

  -- the first port that brought nothing where something is due is refused
  pub looked-missing : (from to : ℕ) (heard : List ℕ) (refused : Refused) → to ≤ ports node → ((q : ℕ) → from ≤ q → q < to → at_port slots q ≡ None) →
      IsFirstMissing phase node.roles from to refused → Looked node phase slots from heard → first_refusal node phase slots ≡ Some refused
  looked-missing from to heard refused high none missing looked =
      let m = missing.port in
      looked-refused m MISSING heard (omega (arith, missing.high, high)) (none-rule heard (role m) (at_port slots m) true (none m missing.low missing.high)
      missing.due)
      (looked-to from m heard missing.low (omega (arith, missing.high, high)) (λ q l h. none q l (omega (arith, missing.high))) (λ q l h. missing.first q l h)
      looked)
      ∙ ap Some (sym missing.is)

  -- at the end nothing is refused, and what was heard is all that came
  pub looked-end : (heard : List ℕ) → Looked node phase slots (ports node) heard → (first_refusal node phase slots ≡ None) × (heard ≡ ids_in slots)
  looked-end heard looked = (
    looked.rest ∙ ap (λ (roles : List Role). ports_refusal node phase (ports node) heard roles (drop (ports node) slots))
        (drop_all (ports node) node.roles (omega arith)),
    sym (append-nil heard) ∙ (ap (λ (rest : List (Option Payload)). heard ++ ids_in rest) (sym (drop_all (ports node) slots (omega arith))) ∙ looked.came),
  )

-- before the first port nothing is looked at
pub looked-start : (node : Node) (phase : Phase) (slots : List (Option Payload)) (cursor : ℕ) → cursor ≡ 0 → Looked node phase slots cursor []
looked-start node phase slots cursor start = subst (λ (k : ℕ). Looked node phase slots k []) (sym start) (record { rest = refl; came = refl })
