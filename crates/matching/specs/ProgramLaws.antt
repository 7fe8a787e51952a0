-- The turns may follow the colouring: their outboxes have a slot for each port, and nothing is sent at the last pulse.
use Rattle.std.proofs.Common.{◌≡◌, ℕ, suc, ◌+◌, ◌-◌, ◌*◌, ◌/◌, ◌%◌, ◌<◌, ◌≤◌, ◌==◌, Bool, true, false, List, length}
use Rattle.std.proofs.Common.{refl, ap, sym, ◌∙◌, arith, subst}
use Rattle.std.proofs.lemmas.List.{length-replicate, length-map, length-set}
use Rattle.std.proofs.lemmas.Bool.Decides.{nat_tests}
use Rattle.std.proofs.lemmas.Nat.{div-mul-add, mod-mul-add}
use Rattle.std.proofs.lemmas.Simd.{map-map}
use Rattle.std.specs.Prelude.{if◌then◌else◌, map, Option, Some, None}
use Rattle.std.specs.Option.{option_or}
use Rattle.interference.specs.Net.{Net, IsNetwork, IsVertex, degree_of, neighbours, neighbour_of, forest_count_of}
use Rattle.node_api.specs.Boxes.{nothing}
use Rattle.node_api.specs.Run.{node_at, inbox_from, state_at}
use Rattle.forests.specs.Forests.{role_of}
use Rattle.forests.specs.declared.numbering.Role.{Role}
use Rattle.forests.specs.declared.numbering.Role.TheVariants.{Unknown, Up, Down}
use Rattle.followed.specs.Said.{told_by}
use Rattle.followed.specs.Followed.{Both, IsCut, IsSequel, beside_of, with_beside}
use Rattle.followed.specs.RunLaws.{at-more, said-nothing, same_run}
use Rattle.colour_rules.specs.declared.phase.TheConstants.{FIRST_MERGE}
use Rattle.node_api.proofs.Outboxes.{same-for_all}
use Rattle.colour_rules.specs.declared.payload.Payload.{Payload}
use Rattle.colour_rules.specs.Node.{Node, ports}
use Rattle.colour_rules.specs.Program.{colouring}
use Rattle.colour_laws.proofs.Expected.{state_while_reducing}
use Rattle.colour_laws.proofs.Forests.{has_forest, has_start}
use Rattle.node_api.proofs.Inboxes.{map-members}
use Rattle.colour_laws.proofs.Runs.{work_stands}
use Rattle.colour_laws.proofs.Starts.{seeded}
use Rattle.node_api.specs.First.{first_came}
use Rattle.matching.specs.declared.proposal.Proposal.{Proposal}
use Rattle.matching.specs.Knowing.{Wire, matching, offered, takes, tells_free, told_free, told_taken, took, turned}
use Rattle.matching.specs.Knowing.{turns}

-- what holds of both branches holds of each
pub either : {A : Type 0} (P : A → Type 0) (b : Bool) (x y : A) → P x → P y → P (if b then x else y)
either P true x y h k = h
either P false x y h k = k

length-told_free : (partner : Option ℕ) (f : ℕ) (roles : List Role) → length (told_free partner f roles) ≡ length roles
length-told_free None f roles = length-map roles _
length-told_free (Some port) f roles = length-replicate (length roles) None

length-told_taken : (n f : ℕ) (child : Option ℕ) → length (told_taken n f child) ≡ n
length-told_taken n f None = length-replicate n None
length-told_taken n f (Some port) = length-set (nothing n) port _ ∙ length-replicate n None

length-turned : (node : Node) (partner : Option ℕ) (q : ℕ) (inbox : List (Option Wire))
    → length (turned node partner q inbox).1 ≡ ports node
length-turned node partner q inbox =
    either (λ (next : Option ℕ × List (Option Wire)). length next.1 ≡ ports node) (q % 2 == 0)
    (offered node (option_or partner (first_came inbox)) (q / 6)) _
    (length-told_free (option_or partner (first_came inbox)) (q / 6) node.roles)
    (length-told_taken (ports node) (q / 6) (takes node partner (q / 6) (q % 6 / 2) (first_came inbox)))

-- a pulse of the turns, by whether it is the first of one
pub turn-even : (node : Node) (partner : Option ℕ) (q : ℕ) (inbox : List (Option Wire)) → q % 2 ≡ 0 →
    turned node partner q inbox ≡ offered node (option_or partner (first_came inbox)) (q / 6)
turn-even node partner q inbox e =
    ap (λ (n : ℕ). if n == 0 then offered node (option_or partner (first_came inbox)) (q / 6)
    else took node partner (q / 6) (takes node partner (q / 6) (q % 6 / 2) (first_came inbox))) e

pub turn-odd : (node : Node) (partner : Option ℕ) (q : ℕ) (inbox : List (Option Wire)) → q % 2 ≡ 1 →
    turned node partner q inbox ≡ took node partner (q / 6) (takes node partner (q / 6) (q % 6 / 2) (first_came inbox))
turn-odd node partner q inbox e =
    ap (λ (n : ℕ). if n == 0 then offered node (option_or partner (first_came inbox)) (q / 6)
    else took node partner (q / 6) (takes node partner (q / 6) (q % 6 / 2) (first_came inbox))) e

-- beyond the forests nobody is told anything
tells-none : (f : ℕ) (role : Role) → ((g : ℕ) → role ≡ Up g → g < f) → tells_free f role ≡ None
tells-none f Unknown below = refl
tells-none f (Down g) below = refl
tells-none f (Up g) below =
    let lower : g < f = below g refl in
    let e : (g == f) ≡ false = grind (arith, nat_tests) in
    rw e refl

-- every node knows that the colours are made at pulse 12
abbrev pub turns_cut : IsCut colouring turns
turns_cut = record {
  cut = λ sizes. FIRST_MERGE - 1;
  within = λ sizes again. omega arith;
  begins = λ own. refl;
  keeps = λ node partner q inbox. refl;
}

module _ (net : Net) (ok : IsNetwork net) where
  abbrev pub at : ℕ → ℕ → Both Node (Option ℕ) × List (Option Wire)
  at p v = node_at matching net p v

  -- the colouring at pulse 12: the forests have their colours, and nothing is on its way
  reduced : (v : ℕ) → IsVertex net v
      → node_at colouring net 12 v ≡ (state_while_reducing net 10 v, nothing (degree_of net v))
  reduced v is_vertex =
      work_stands net ok (has_forest net ok) (seeded net ok (has_forest net ok) (has_start net ok)) 10
      (omega arith) v is_vertex
      ∙ ap (λ (out : List (Option Payload)). (state_while_reducing net 10 v, out))
      (sym (same-for_all None (neighbours net v)))

  pub at-first : (v : ℕ) → IsVertex net v → at 12 v
      ≡ (record { first = state_while_reducing net 10 v; beside = None }, nothing (degree_of net v))
  at-first v is_vertex = same_run colouring turns turns_cut net ok 12 v is_vertex (omega arith)
      ∙ (ap (λ (node : Node × List (Option Payload)). with_beside None (told_by {B = Proposal} node))
      (reduced v is_vertex)
      ∙ ap (λ (out : List (Option Wire)). (record { first = state_while_reducing net 10 v; beside = None }, out))
      (said-nothing {A = Payload} {B = Proposal} (degree_of net v)))

  -- and then a pulse of the turns
  pub at-turn : (p v : ℕ) → IsVertex net v → 12 ≤ p → at (suc p) v
      ≡ beside_of (state_while_reducing net 10 v)
      (turned (state_while_reducing net 10 v) (at p v).0.beside (p - 12) (inbox_from net (at p) v))
  at-turn p v is_vertex h =
      let s : Node = state_at colouring net 12 v in
      at-more colouring turns turns_cut net ok p v is_vertex h
      (turned s (at p v).0.beside (p - 12) (inbox_from net (at p) v)) refl
      ∙ ap (λ (node : Node). beside_of node (turned node (at p v).0.beside (p - 12) (inbox_from net (at p) v)))
      (ap (λ (node : Node × List (Option Payload)). node.0) (reduced v is_vertex))

  quiet : (v : ℕ) → IsVertex net v → (partner : Option ℕ) →
      told_free partner (forest_count_of net) (map (role_of net v) (neighbours net v)) ≡ nothing (degree_of net v)
  quiet v is_vertex None =
      map-map (tells_free (forest_count_of net)) (role_of net v) (neighbours net v)
      ∙ (map-members (λ w. tells_free (forest_count_of net) (role_of net v w)) (λ w. None) (neighbours net v)
      (λ k below. tells-none (forest_count_of net) (role_of net v (neighbour_of net v k))
      (λ g e. ((has_forest net ok).up v k g is_vertex below e).2))
      ∙ sym (same-for_all None (neighbours net v)))
  quiet v is_vertex (Some port) = ap (λ (n : ℕ). nothing n) (length-map (neighbours net v) (role_of net v))

  -- the last pulse is the first of a turn of a forest that there isn't
  silent_last : (v : ℕ) → IsVertex net v → (at (FIRST_MERGE + 6 * forest_count_of net) v).1 ≡ nothing (degree_of net v)
  silent_last v is_vertex =
      let u : ℕ = forest_count_of net in
      let p : ℕ = 12 + 6 * u in
      let node : Node = state_while_reducing net 10 v in
      let inbox : List (Option Wire) = inbox_from net (at p) v in
      let partner : Option ℕ = option_or (at p v).0.beside (first_came inbox) in
      let last : suc p ≡ FIRST_MERGE + 6 * u = omega arith in
      let even : (p - 12) % 2 ≡ 0 = ap (λ (n : ℕ). n % 2) (let e : p - 12 ≡ u * 3 * 2 + 0 = omega arith in e)
      ∙ mod-mul-add (u * 3) 2 0 (omega arith) in
      let forest : (p - 12) / 6 ≡ u = ap (λ (n : ℕ). n / 6) (let e : p - 12 ≡ u * 6 + 0 = omega arith in e)
      ∙ div-mul-add u 6 0 (omega arith) in
      subst (λ (n : ℕ). (at n v).1 ≡ nothing (degree_of net v)) last
      (ap (λ (next : Both Node (Option ℕ) × List (Option Wire)). next.1) (at-turn p v is_vertex (omega arith))
      ∙ (ap (λ (next : Option ℕ × List (Option Wire)). next.1) (turn-even node (at p v).0.beside (p - 12) inbox even)
      ∙ (ap (λ (f : ℕ). told_free partner f node.roles) forest ∙ quiet v is_vertex partner)))

pub turns_laws : IsSequel colouring turns
turns_laws = record {
  cut = turns_cut;
  shape = λ node partner q inbox h. length-turned node partner q inbox;
  accepts = λ net ok p v is_vertex late below. refl;
  silent = λ net ok v is_vertex. silent_last net ok v is_vertex;
}
