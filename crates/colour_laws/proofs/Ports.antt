-- What is fine at each port is not refused, and what comes from a parent is found.
use Rattle.std.proofs.Common.{◌≡◌, ℕ, zero, suc, ◌<◌, ◌≤◌, ◌==◌, Bool, true, false, List, [], ◌∷◌, length, refl, ap, arith, get_or}
use Rattle.std.specs.Prelude.{if◌then◌else◌, map, Option, Some, None, Ok, nat_lt, slice_index}
use Rattle.std.proofs.lemmas.Bool.Decides.{nat_tests}
use Rattle.std.proofs.lemmas.Bool.{lt-ltb}
use Rattle.std.proofs.lemmas.List.FromFn.{get_or-map-range_with_len}
use Rattle.std.specs.List.{list_any}
use Rattle.interference.specs.Net.{Net, forest_count_of}
use Rattle.node_api.specs.Program.{Sizes}
use Rattle.colour_rules.specs.declared.payload.Payload.{Payload}
use Rattle.colour_rules.specs.declared.payload.Payload.TheVariants.{Colour}
use Rattle.forests.specs.declared.numbering.Role.{Role}
use Rattle.forests.specs.declared.numbering.Role.TheVariants.{Up}
use Rattle.colour_rules.specs.Node.{Node, reduction_of, phase_of}
use Rattle.colour_rules.specs.Table.{is_above}
use Rattle.colour_rules.specs.Refusals.{first_refusal, port_rule, ports_refusal, own_rule, refusal}
use Rattle.colour_rules.specs.Program.{work_of, next, answered, is_up, colour_in, from_parent, silent}
use Rattle.colour_rules.specs.declared.phase.Reduction.{Reduction}
use Rattle.colour_rules.specs.declared.phase.Reduction.TheVariants.{Step, Shift, Drop}
use Rattle.colour_rules.specs.declared.phase.TheConstants.{FIRST_MERGE}
use Rattle.colour_rules.specs.declared.phase.Phase.{Phase}
use Rattle.colour_rules.specs.declared.phase.Phase.TheVariants.{Work}
use Rattle.colour_laws.proofs.Expected.{by_forest}
use Rattle.std.proofs.lemmas.Simd.{map-map}

pub ports_none : (node : Node) (phase : Phase) (role : ℕ → Role) (slot : ℕ → Option Payload) (ws : List ℕ) →
    ((k : ℕ) → k < length ws → (earlier : List ℕ) → port_rule node earlier phase (role (get_or ws k 0)) (slot (get_or ws k 0)) ≡ None) →
    (port : ℕ) (earlier : List ℕ) → ports_refusal node phase port earlier (map role ws) (map slot ws) ≡ None
ports_none node phase role slot [] fine port earlier = refl
ports_none node phase role slot (w ∷ ws) fine port earlier =
    rw (fine 0 (omega arith) earlier) (ports_none node phase role slot ws (λ k h. fine (suc k) (omega arith)) (suc port) _)

port-case : (b : Bool) (x : Option Payload) (rest y : Option ℕ) → (b ≡ true → colour_in x ≡ y) → (b ≡ false → rest ≡ y) → (if b then colour_in x else rest) ≡ y
port-case true x rest y here later = here refl
port-case false x rest y here later = later refl

-- where no port is up in forest f nothing came from a parent
pub from_nobody : (f : ℕ) (role : ℕ → Role) (slot : ℕ → Option Payload) (ws : List ℕ) → ((k : ℕ) → k < length ws → is_up f (role (get_or ws k 0)) ≡ true → ⊥)
    → from_parent f (map role ws) (map slot ws) ≡ None
from_nobody f role slot [] none = refl
from_nobody f role slot (w ∷ ws) none =
    port-case (is_up f (role w)) (slot w) (from_parent f (map role ws) (map slot ws)) None (λ e. absurd (none 0 (omega arith) e))
    (λ e. from_nobody f role slot ws (λ k h. none (suc k) (omega arith)))

-- where some port is, and all of those brought y, y came from the parent
pub from_somebody : (f : ℕ) (role : ℕ → Role) (slot : ℕ → Option Payload) (y : Option ℕ) (ws : List ℕ) (k : ℕ) → k < length ws →
    is_up f (role (get_or ws k 0)) ≡ true → ((j : ℕ) → j < length ws → is_up f (role (get_or ws j 0)) ≡ true → colour_in (slot (get_or ws j 0)) ≡ y) →
    from_parent f (map role ws) (map slot ws) ≡ y
from_somebody f role slot y [] k h up all = absurd (omega arith)
from_somebody f role slot y (w ∷ ws) zero h up all =
    port-case (is_up f (role w)) (slot w) (from_parent f (map role ws) (map slot ws)) y (all 0 (omega arith)) (λ e. absurd (cc))
from_somebody f role slot y (w ∷ ws) (suc k) h up all =
    port-case (is_up f (role w)) (slot w) (from_parent f (map role ws) (map slot ws)) y (all 0 (omega arith))
    (λ e. from_somebody f role slot y ws k (omega arith) up (λ j l. all (suc j) (omega arith)))

pub port_up : (node : Node) (earlier : List ℕ) (reduction : Reduction) (f c : ℕ) → is_above reduction c ≡ false → (c ≡ slice_index node.colours f → ⊥) →
    port_rule node earlier (Work reduction) (Up f) (Some (Colour c)) ≡ None
port_up node earlier reduction f c low apart = let e : (c == slice_index node.colours f) ≡ false = grind (arith, nat_tests) in rw (low, e) refl

pub same_forest : (f : ℕ) → (f == f) ≡ true
same_forest f = grind (arith, nat_tests)

pub in_forest : (net : Net) (c : ℕ → ℕ) (f : ℕ) → f < forest_count_of net → slice_index (by_forest net c) f ≡ c f
in_forest net c f h = get_or-map-range_with_len c 0 (forest_count_of net) f f 0 h (omega arith)

pub phase_work : (sizes : Sizes) (p : ℕ) → 3 ≤ p → p < FIRST_MERGE → phase_of sizes p ≡ Work (reduction_of p)
phase_work sizes p low high =
    let e0 : (p == 0) ≡ false = grind (arith, nat_tests) in
    let e1 : (p == 1) ≡ false = grind (arith, nat_tests) in
    let e2 : (p == 2) ≡ false = grind (arith, nat_tests) in
    let e3 : nat_lt p FIRST_MERGE ≡ true = lt-ltb p FIRST_MERGE high in
    rw (e0, e1, e2, e3) refl

-- what is sent from a list of roles, or nothing
pub sent_if : {X : Type 0} (b b' : Bool) (g : X → Option Payload) (role : ℕ → X) (ws : List ℕ) → b ≡ b' →
    (if b then silent (map role ws) else map g (map role ws)) ≡ map (λ w. if b' then None else g (role w)) ws
sent_if true true g role ws e = map-map (λ x. None) role ws
sent_if false false g role ws e = map-map g role ws
sent_if true false g role ws e = absurd (cc)
sent_if false true g role ws e = absurd (cc)

pub no_own_rule : (node : Node) (reduction : Reduction) (inbox : List (Option Payload)) → list_any (is_above reduction) node.colours ≡ false →
    own_rule node (Work reduction) inbox ≡ None
no_own_rule node (Step k) inbox none = refl
no_own_rule node (Shift x) inbox none = rw none refl
no_own_rule node (Drop x) inbox none = rw none refl

pub accepted : (node : Node) (p : ℕ) (phase : Phase) (inbox : List (Option Payload)) → phase_of node.sizes p ≡ phase → first_refusal node phase inbox ≡ None →
    own_rule node phase inbox ≡ None → next node p inbox ≡ Ok (work_of node phase inbox)
accepted node p phase inbox e ports own =
    let none : refusal node phase inbox ≡ None = rw (ports, own) refl in
    rw e (ap (λ r. answered r (work_of node phase inbox)) none)
