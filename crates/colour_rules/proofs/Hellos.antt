-- What came at Orient where nothing is refused: an identifier from each port, all different.
use Rattle.std.proofs.Common.{◌≡◌, ◌≢◌, ℕ, suc, ◌==◌, Bool, true, false, List, [], ◌∷◌, ◌++◌, length, map, refl, ap, sym, subst, ◌∙◌, arith}
use Rattle.std.specs.Prelude.{if◌then◌else◌, Option, Some, None}
use Rattle.std.specs.List.{All, AllPairs}
use Rattle.std.proofs.lemmas.Bool.Decides.{nat_tests}
use Rattle.std.proofs.lemmas.List.Folds.{list_any-append}
use Rattle.std.proofs.lemmas.List.Elements.{All-cons}
use Rattle.std.proofs.lemmas.List.Kept.{AllPairs-cons}
use Rattle.std.proofs.lemmas.Bool.{or_parts}
use Rattle.forest_merge.specs.Free.{is_among}
use Rattle.forests.specs.Forests.{role_by}
use Rattle.forests.specs.declared.numbering.Role.{Role}
use Rattle.forests.specs.declared.numbering.Role.TheVariants.{Unknown, Up, Down}
use Rattle.colour_rules.specs.declared.payload.Payload.{Payload}
use Rattle.colour_rules.specs.declared.payload.Payload.TheVariants.{Hello, Label, Colour, Chosen}
use Rattle.colour_rules.specs.declared.phase.Phase.{Phase}
use Rattle.colour_rules.specs.declared.phase.Phase.TheVariants.{Orient}
use Rattle.colour_rules.specs.declared.rules.TheConstants.{COLOUR_RANGE}
use Rattle.colour_rules.specs.Node.{Node}
use Rattle.colour_rules.specs.Refusals.{and_id, first_refusal, ids_in, port_rule, ports_refusal}
use Rattle.colour_rules.specs.Program.{work_of, oriented_slot, tells_label, with_roles}
use Rattle.colour_rules.proofs.Accepted.{neither}

-- a slot brings an identifier, which is neither the node's own nor one heard earlier
abbrev Brings : ℕ → List ℕ → Option Payload → Type 0
Brings own earlier slot = (n : ℕ) × (slot ≡ Some (Hello n)) × (n ≢ own) × (is_among earlier n ≡ false)

-- the rule of an identifier, by whether it is the node's own or heard earlier; where it breaks none it is neither
abbrev id_rule : Bool → Bool → Option ℕ
id_rule is_own is_heard = if is_own then Some COLOUR_RANGE else if is_heard then Some COLOUR_RANGE else None

no_test : (own n : ℕ) (is_own is_heard : Bool) → (n == own) ≡ is_own → id_rule is_own is_heard ≡ None → (n ≢ own) × (is_heard ≡ false)
no_test own n false false e h = ((let apart : n ≢ own = grind (arith, nat_tests) in apart), refl)
no_test own n false true e h = absurd (cc)
no_test own n true b e h = absurd (cc)

brings : (node : Node) (earlier : List ℕ) (role : Role) (slot : Option Payload) → port_rule node earlier Orient role slot ≡ None → Brings node.id earlier slot
brings node earlier role None h = absurd (cc)
brings node earlier Unknown (Some (Hello n)) h = let t = no_test node.id n (n == node.id) (is_among earlier n) refl h in (n, refl, t.0, t.1)
brings node earlier (Up f) (Some (Hello n)) h = absurd (cc)
brings node earlier (Down f) (Some (Hello n)) h = absurd (cc)
brings node earlier Unknown (Some (Label f)) h = absurd (cc)
brings node earlier (Up g) (Some (Label f)) h = absurd (cc)
brings node earlier (Down g) (Some (Label f)) h = absurd (cc)
brings node earlier Unknown (Some (Colour c)) h = absurd (cc)
brings node earlier (Up g) (Some (Colour c)) h = absurd (cc)
brings node earlier (Down g) (Some (Colour c)) h = absurd (cc)
brings node earlier Unknown (Some (Chosen c)) h = absurd (cc)
brings node earlier (Up g) (Some (Chosen c)) h = absurd (cc)
brings node earlier (Down g) (Some (Chosen c)) h = absurd (cc)

-- Slots that bring an identifier each, all different, none the node's own or heard earlier.
pub record OnlyHellos (own : ℕ) (earlier : List ℕ) (slots : List (Option Payload)) : Type 0 where
  pub roles : (id : ℕ) (ids : List ℕ) → map (oriented_slot id ids) slots ≡ map (role_by id ids) (ids_in slots)
  pub size : length (ids_in slots) ≡ length slots
  pub others : All (λ n. n ≢ own) (ids_in slots)
  pub fresh : All (λ n. is_among earlier n ≡ false) (ids_in slots)
  pub distinct : AllPairs (λ x y. x ≢ y) (ids_in slots)

-- what is not among more was not among fewer, and is none of those that came to them
not_earlier : (earlier : List ℕ) (n m : ℕ) → is_among (earlier ++ (n ∷ [])) m ≡ false → (is_among earlier m ≡ false) × (n ≢ m)
not_earlier earlier n m h =
    let parts = or_parts (is_among earlier m) (is_among (n ∷ []) m) (sym (list_any-append (λ x. x == m) earlier (n ∷ [])) ∙ h) in
    let other : (n == m) ≡ false = (or_parts (n == m) false parts.1).0 in
    (parts.0, (let apart : n ≢ m = grind (arith, nat_tests) in apart))

hellos-more : (own n : ℕ) (earlier : List ℕ) (slots : List (Option Payload)) → n ≢ own → is_among earlier n ≡ false →
    OnlyHellos own (earlier ++ (n ∷ [])) slots → OnlyHellos own earlier (Some (Hello n) ∷ slots)
hellos-more own n earlier slots other new more = record {
  roles = λ id ids. ap (λ (rest : List Role). role_by id ids n ∷ rest) (more.roles id ids);
  size = omega (arith, more.size);
  others = All-cons (λ m. m ≢ own) n (ids_in slots) other more.others;
  fresh = All-cons (λ m. is_among earlier m ≡ false) n (ids_in slots) new (λ k d h. (not_earlier earlier n _ (more.fresh k d h)).0);
  distinct = AllPairs-cons (λ x y. x ≢ y) n (ids_in slots) (λ k d h. (not_earlier earlier n _ (more.fresh k d h)).1) more.distinct;
}

pub hellos : (node : Node) (port : ℕ) (earlier : List ℕ) (roles : List Role) (slots : List (Option Payload)) → length slots ≡ length roles →
    ports_refusal node Orient port earlier roles slots ≡ None → OnlyHellos node.id earlier slots
hellos node port earlier [] [] size none = record {
  roles = λ id ids. refl;
  size = refl;
  others = λ k d h. absurd (omega arith);
  fresh =
      λ k d h. absurd (omega arith);
  distinct = λ i j d low h. absurd (omega arith);
}
hellos node port earlier [] (slot ∷ slots) size none = absurd (omega arith)
hellos node port earlier (role ∷ roles) [] size none = absurd (omega arith)
hellos node port earlier (role ∷ roles) (slot ∷ slots) size none =
    let parts = neither (port_rule node earlier Orient role slot) port (ports_refusal node Orient (suc port) (and_id earlier slot) roles slots) none in
    let b : Brings node.id earlier slot = brings node earlier role slot parts.0 in
    let more : OnlyHellos node.id (earlier ++ (b.0 ∷ [])) slots =
    subst (λ (s : Option Payload). OnlyHellos node.id (and_id earlier s) slots) b.1 (hellos node (suc port) (and_id earlier slot) roles slots
    (omega arith) parts.1) in
    subst (λ (s : Option Payload). OnlyHellos node.id earlier (s ∷ slots)) (sym b.1) (hellos-more node.id b.0 earlier slots b.2 b.3 more)

-- the same, of all ports in that phase
pub only_hellos : (node : Node) (phase : Phase) (slots : List (Option Payload)) → phase ≡ Orient → length slots ≡ length node.roles →
    first_refusal node phase slots ≡ None → OnlyHellos node.id [] slots
only_hellos node phase slots e size none = hellos node 0 [] node.roles slots size (subst (λ (x : Phase). first_refusal node x slots ≡ None) e none)

-- a node that numbered its ports by what it heard has done the work of Orient
pub oriented-is : (node new : Node) (phase : Phase) (heard : List ℕ) (slots out : List (Option Payload)) → phase ≡ Orient → heard ≡ ids_in slots →
    OnlyHellos node.id [] slots → new ≡ with_roles node (map (role_by node.id heard) heard) → out ≡ map tells_label new.roles →
    (new, out) ≡ work_of node phase slots
oriented-is node new phase heard slots out e all h is told =
    let roles : map (role_by node.id heard) heard ≡ map (oriented_slot node.id (ids_in slots)) slots =
    ap (λ (ids : List ℕ). map (role_by node.id ids) ids) all ∙ sym (h.roles node.id (ids_in slots)) in
    let node_is : new ≡ with_roles node (map (oriented_slot node.id (ids_in slots)) slots) = is ∙ ap (with_roles node) roles in
    ap (λ (o : List (Option Payload)). (new, o)) told
    ∙ (ap (λ (n : Node). (n, map tells_label n.roles)) node_is
    ∙ ap (λ (x : Phase). work_of node x slots) (sym e))
