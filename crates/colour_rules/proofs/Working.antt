-- Where nothing is refused, the colours of the forests are ready to be turned.
use Rattle.std.proofs.Common.{◌≡◌, ◌≢◌, ℕ, zero, suc, ◌<◌, ◌==◌, Bool, true, false, List, [], ◌∷◌, length, refl, ap, sym, ◌∙◌, arith, get_or, subst}
use Rattle.std.specs.Prelude.{if◌then◌else◌, IfSome, Option, Some, None, slice_index}
use Rattle.std.proofs.lemmas.Bool.Decides.{nat_tests}
use Rattle.std.specs.List.{list_any}
use Rattle.std.proofs.lemmas.List.FromFn.{get_or-map-range_with_len, length-map-range_with_len}
use Rattle.std.proofs.lemmas.Bool.{or_parts}
use Rattle.node_api.specs.Boxes.{at_port}
use Rattle.forests.specs.declared.numbering.Role.{Role}
use Rattle.forests.specs.declared.numbering.Role.TheVariants.{Unknown, Up, Down}
use Rattle.colour_rules.specs.declared.phase.Reduction.{Reduction}
use Rattle.colour_rules.specs.declared.phase.Reduction.TheVariants.{Step, Shift, Drop}
use Rattle.colour_rules.specs.declared.phase.Phase.TheVariants.{Work}
use Rattle.colour_rules.specs.declared.payload.Payload.{Payload}
use Rattle.colour_rules.specs.declared.payload.Payload.TheVariants.{Hello, Label, Colour, Chosen}
use Rattle.colour_rules.specs.Node.{Node, AreBelow, IsReduction, ports}
use Rattle.colour_rules.specs.declared.rules.TheConstants.{COLOUR_RANGE}
use Rattle.colour_rules.specs.Table.{is_above}
use Rattle.colour_rules.specs.Refusals.{IsAccepted, own_rule, port_rule}
use Rattle.colour_rules.specs.Program.{IsReady, colour_in, from_parent, is_up, kept_colour, next_kept}
use Rattle.colour_rules.proofs.Accepted.{fine_at}
use Rattle.colour_rules.proofs.Phases.{low-colour}

rules-if : (a b : Bool) (x y : ℕ) → (if a then Some x else if b then Some y else None) ≡ None → (a ≡ false) × (b ≡ false)
rules-if true b x y e = absurd (cc)
rules-if false true x y e = absurd (cc)
rules-if false false x y e = (refl, refl)

-- What a port to a parent brought in a pulse of work, where it breaks no rule.
abbrev pub BringsColour : Node → Reduction → ℕ → Option Payload → Type 0
BringsColour node reduction f slot = (c : ℕ) × (slot ≡ Some (Colour c)) × (is_above reduction c ≡ false) × (c ≢ slice_index node.colours f)

brings : (node : Node) (heard : List ℕ) (reduction : Reduction) (f : ℕ) (slot : Option Payload) → port_rule node heard (Work reduction) (Up f) slot ≡ None →
    BringsColour node reduction f slot
brings node heard reduction f None e = absurd (cc)
brings node heard reduction f (Some (Hello n)) e = absurd (cc)
brings node heard reduction f (Some (Label g)) e = absurd (cc)
brings node heard reduction f (Some (Colour c)) e =
    let w = rules-if (is_above reduction c) (c == slice_index node.colours f) COLOUR_RANGE COLOUR_RANGE e in
    let apart : (c == slice_index node.colours f) ≡ false = w.1 in
    (c, refl, w.0, grind (arith, nat_tests))
brings node heard reduction f (Some (Chosen c)) e = absurd (cc)

pub up-is : (f : ℕ) (role : Role) → is_up f role ≡ true → role ≡ Up f
up-is f Unknown e = absurd (cc)
up-is f (Up g) e = let same : g ≡ f = grind (arith, nat_tests) in ap (λ (x : ℕ). Up x) same
up-is f (Down g) e = absurd (cc)

parent-if : (P : Option ℕ → Type 0) (b : Bool) (x y : Option ℕ) → (b ≡ true → P x) → P y → P (if b then x else y)
parent-if P true x y here later = here refl
parent-if P false x y here later = later

-- what holds of nothing, and of what each port to a parent in forest f brought, holds of the parent's colour
parent-has : (P : Option ℕ → Type 0) (f : ℕ) (roles : List Role) (slots : List (Option Payload)) → P None →
    ((k : ℕ) → k < length roles → get_or roles k Unknown ≡ Up f → P (colour_in (at_port slots k))) → P (from_parent f roles slots)
parent-has P f [] slots none each = none
parent-has P f (role ∷ roles) [] none each = none
parent-has P f (role ∷ roles) (slot ∷ slots) none each =
    parent-if P (is_up f role) (colour_in slot) (from_parent f roles slots) (λ up. each 0 (omega arith) (up-is f role up))
    (parent-has P f roles slots none (λ k h. each (suc k) (omega arith)))

own-if : (b : Bool) (x : ℕ) → (if b then Some x else None) ≡ None → b ≡ false
own-if true x e = absurd (cc)
own-if false x e = refl

none-of : (test : ℕ → Bool) (cs : List ℕ) → list_any test cs ≡ false → (i : ℕ) → i < length cs → test (slice_index cs i) ≡ false
none-of test [] none i h = absurd (omega arith)
none-of test (c ∷ cs) none zero h = (or_parts (test c) (list_any test cs) none).0
none-of test (c ∷ cs) none (suc i) h = none-of test cs (or_parts (test c) (list_any test cs) none).1 i (omega arith)

module _ (node : Node) (reduction : Reduction) (slots : List (Option Payload)) (accepted : IsAccepted node (Work reduction) slots) where
  -- the node's own colours are 0 to 5 if they are shifted or dropped
  own-low : ((k : ℕ) → reduction ≡ Step k → ⊥) → (f : ℕ) → f < length node.colours → slice_index node.colours f < 6
  own-low other f h = low-colour reduction (slice_index node.colours f) accepted.real other
      (none-of (is_above reduction) node.colours (none reduction accepted.by_node other) f h)
    where
      none : (r : Reduction) → own_rule node (Work r) slots ≡ None → ((k : ℕ) → r ≡ Step k → ⊥) → list_any (is_above r) node.colours ≡ false
      none (Step k) e other = absurd (other k refl)
      none (Shift x) e other = own-if (list_any (is_above (Shift x)) node.colours) COLOUR_RANGE e
      none (Drop x) e other = own-if (list_any (is_above (Drop x)) node.colours) COLOUR_RANGE e

  -- each port to a parent brought a colour
  pub brought : (port f : ℕ) → port < ports node → get_or node.roles port Unknown ≡ Up f → BringsColour node reduction f (at_port slots port)
  brought port f h up =
      let fine = fine_at node (Work reduction) 0 [] node.roles slots accepted.size accepted.by_ports port h in
      brings node fine.0 reduction f (at_port slots port) (subst (λ (role : Role). port_rule node fine.0 (Work reduction) role (at_port slots port) ≡ None)
      up fine.1)

  parent-apart : (f : ℕ) → from_parent f node.roles slots ≢ Some (slice_index node.colours f)
  parent-apart f =
      parent-has (λ x. x ≢ Some (slice_index node.colours f)) f node.roles slots (λ e. absurd (cc))
      (λ k h up e. let b = brought k f h up in b.3 (let same : Some b.0 ≡ Some (slice_index node.colours f) = sym (ap colour_in b.1) ∙ e in cc))

  parent-low : ((k : ℕ) → reduction ≡ Step k → ⊥) → (f : ℕ) → IfSome (from_parent f node.roles slots) (λ c. c < 6)
  parent-low other f =
      parent-has (λ x. IfSome x (λ c. c < 6)) f node.roles slots tt
      (λ k h up.
      let b = brought k f h up in
      subst (λ (s : Option Payload). IfSome (colour_in s) (λ c. c < 6)) (sym b.1) (low-colour reduction b.0 accepted.real other b.2))

  -- what a turn asks for
  pub ready : AreBelow 6 node.before → length node.before ≡ length node.colours → (f : ℕ) → f < length node.colours →
      IsReady reduction (slice_index node.colours f) (slice_index node.before f) (from_parent f node.roles slots)
  ready low as_many f h = of_reduction reduction accepted.real (parent-apart f) (λ other. own-low other f h) (low f (omega arith)) (λ other. parent-low other f)
    where
      of_reduction : (r : Reduction) → IsReduction r → from_parent f node.roles slots ≢ Some (slice_index node.colours f) →
          (((k : ℕ) → r ≡ Step k → ⊥) → slice_index node.colours f < 6) → slice_index node.before f < 6 →
          (((k : ℕ) → r ≡ Step k → ⊥) → IfSome (from_parent f node.roles slots) (λ c. c < 6)) →
          IsReady r (slice_index node.colours f) (slice_index node.before f) (from_parent f node.roles slots)
      of_reduction (Step k) is apart own before parent = apart
      of_reduction (Shift x) is apart own before parent = (apart, own (λ k e. absurd (cc)), before, parent (λ k e. absurd (cc)))
      of_reduction (Drop x) is apart own before parent = (apart, own (λ k e. absurd (cc)), before, parent (λ k e. absurd (cc)), is.0, is.1)

  kept-low : (r : Reduction) (own before : ℕ) → (((k : ℕ) → r ≡ Step k → ⊥) → own < 6) → before < 6 → kept_colour r own before < 6
  kept-low (Step k) own before low small = small
  kept-low (Shift x) own before low small = low (λ k e. absurd (cc))
  kept-low (Drop x) own before low small = small

  -- the colours that are kept are 0 to 5 again
  pub kept-below : AreBelow 6 node.before → length node.before ≡ length node.colours → length node.colours ≡ node.sizes.forests →
      AreBelow 6 (next_kept node reduction)
  kept-below low as_many size f h =
      let F = λ (g : ℕ). kept_colour reduction (slice_index node.colours g) (slice_index node.before g) in
      let within : f < node.sizes.forests = omega (arith, length-map-range_with_len F 0 node.sizes.forests) in
      subst (λ (c : ℕ). c < 6) (sym (get_or-map-range_with_len F 0 node.sizes.forests f f 0 within (omega arith)))
      (kept-low reduction (slice_index node.colours f) (slice_index node.before f) (λ other. own-low other f (omega arith)) (low f (omega arith)))
