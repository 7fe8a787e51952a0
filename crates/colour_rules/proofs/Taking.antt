-- Taking in the colours that come at a step of the merging after the first of a forest.
use Rattle.std.proofs.Common.{◌≡◌, ℕ, ◌+◌, ◌<◌, ◌≤◌, ◌==◌, true, false, List, [], length, refl, ap, subst, sym, ◌∙◌, arith, slice_index_or}
use Rattle.std.specs.Prelude.{nat_lt, Option, Some, None}
use Rattle.std.specs.Ordering.{nat_cmp}
use Rattle.std.specs.FinSet.{FinSet, insert}
use Rattle.std.proofs.lemmas.Bool.Decides.{nat_tests}
use Rattle.node_api.specs.Boxes.{HasFrom, Mail, Reads, at_port, unread}
use Rattle.node_api.proofs.Reading.{fold_rest-read, fold_rest-end}
use Rattle.forests.specs.declared.numbering.Role.{Role}
use Rattle.forests.specs.declared.numbering.Role.TheVariants.{Unknown, Up, Down}
use Rattle.node_api.specs.Program.{span}
use Rattle.colour_rules.specs.declared.payload.Payload.{Payload}
use Rattle.colour_rules.specs.declared.payload.Payload.TheVariants.{Chosen}
use Rattle.colour_rules.specs.declared.phase.Phase.{Phase}
use Rattle.colour_rules.specs.declared.phase.Phase.TheVariants.{Merge}
use Rattle.colour_rules.specs.Node.{Node, ports}
use Rattle.colour_rules.specs.Choice.{with_chosen}
use Rattle.colour_rules.specs.Idle.{IsPassed}
use Rattle.colour_rules.specs.Table.{is_merged}
use Rattle.colour_rules.specs.Refusals.{Looked, and_id, first_refusal, port_rule}
use Rattle.colour_rules.proofs.Reading.{Next, next-is, none-left, taken_in, with_chosen-fold}
use Rattle.colour_rules.proofs.Walking.{looked-end, looked-more, looked-to}

-- a colour that is low enough, from a port of the forests merged so far, breaks no rule
chosen-comes : (node : Node) (f s c : ℕ) (earlier : List ℕ) (role : Role) → 0 < s → c ≤ span node.sizes → is_merged f role ≡ true →
    port_rule node earlier (Merge f s) role (Some (Chosen c)) ≡ None
chosen-comes node f s c earlier Unknown some low merged = absurd (cc)
chosen-comes node f s c earlier (Up g) some low merged =
    let later : (s == 0) ≡ false = grind (arith, nat_tests) in
    let fits : nat_lt (span node.sizes) c ≡ false = grind (arith, nat_tests) in
    rw (later, merged, fits) refl
chosen-comes node f s c earlier (Down g) some low merged =
    let later : (s == 0) ≡ false = grind (arith, nat_tests) in
    let fits : nat_lt (span node.sizes) c ≡ false = grind (arith, nat_tests) in
    rw (later, merged, fits) refl

module _ (node : Node) (f : ℕ) (slots : List (Option Payload)) (same : length slots ≡ ports node) where
  -- so the ports up to its own are passed
  pub passed-more : (old new : Mail Payload) (port c : ℕ) → old.slots ≡ slots → port + 1 ≡ new.cursor → Reads old (Chosen c) new →
      c ≤ span node.sizes → is_merged f (slice_index_or node.roles port Unknown) ≡ true → IsPassed node f slots old.cursor →
      IsPassed node f slots new.cursor
  passed-more old new port c here at reads low merged passed s some =
      let phase : Phase = Merge f s in
      let n : Next slots old.cursor port (Chosen c) = next-is slots old.cursor port old (Chosen c) new here refl at reads in
      let high : port < ports node = omega (arith, n.high, same) in
      let there : Looked node phase slots port [] =
      looked-to node phase slots same old.cursor port [] n.low (omega (arith, high)) n.none (λ q from below. refl) (passed s some) in
      let rule : port_rule node [] phase (slice_index_or node.roles port Unknown) (at_port slots port) ≡ None =
      ap (port_rule node [] phase (slice_index_or node.roles port Unknown)) n.here
      ∙ chosen-comes node f s c [] (slice_index_or node.roles port Unknown) some low merged in
      let more : Looked node phase slots (port + 1) (and_id [] (at_port slots port)) = looked-more node phase slots same port [] high rule there in
      subst (λ (k : ℕ). Looked node phase slots k []) at (subst (λ (ids : List ℕ). Looked node phase slots (port + 1) ids) (ap (and_id []) n.here) more)

  -- and where nothing is left to be read, all are
  pub passed-end : (mail : Mail Payload) → mail.slots ≡ slots → mail.cursor ≤ ports node → (HasFrom mail.slots mail.cursor → ⊥) →
      IsPassed node f slots mail.cursor → IsPassed node f slots (ports node)
  passed-end mail here within end passed s some =
      let none = none-left slots mail.cursor mail here refl end in
      looked-to node (Merge f s) slots same mail.cursor (ports node) [] within (omega arith) (λ q low high. none q low (omega (arith, high, same)))
      (λ q low high. refl) (passed s some)

  -- so nothing is refused
  pub passed-fine : IsPassed node f slots (ports node) → (s : ℕ) → 0 < s → first_refusal node (Merge f s) slots ≡ None
  passed-fine passed s some = (looked-end node (Merge f s) slots same [] (passed s some)).0

-- one colour came, and nothing else
pub one-taken : (set : FinSet nat_cmp) (slots : List (Option Payload)) (new : Mail Payload) (c : ℕ) → Reads (unread slots) (Chosen c) new →
    (HasFrom new.slots new.cursor → ⊥) → insert set c ≡ with_chosen set slots
one-taken set slots new c reads end =
    sym (fold_rest-end taken_in new (insert set c) end)
    ∙ (sym (fold_rest-read taken_in (unread slots) (Chosen c) new set reads) ∙ with_chosen-fold set 0 slots)
