use Rattle.std.proofs.Common.{◌≡◌, ℕ, Bool, List, length, ap, sym, ◌∙◌, arith}
use Rattle.std.specs.Prelude.{Option}
use Rattle.node_api.specs.Marks.{count_marks}
use Rattle.node_api.specs.Boxes.{Mail, nothing, unread}
use Rattle.node_api.specs.Slots.{slots_of}
use Rattle.node_api.proofs.Slots.{length-slots_of, slots_of-none, slots_of-uncounted}
use Rattle.node_api.proofs.inbox.Inbox.clear.Goals as goal

pub returns-then-count-ne0 : goal.returns-then-count-ne0
returns-then-count-ne0 g c =
    let a = c.self.inside in
    let now = c.self.view_is ∙ c.rewind.ensures.unread in
    let size : length a.marks ≡ length c.args.self.now.slots = sym (length-slots_of a.marks a.slots.items) ∙ ap (λ (m : Mail _). length m.slots) now in
    record {
      empty = ap (λ (marks : List Bool). record { slots = slots_of marks a.slots.items; cursor = a.cursor }) c.clear.ensures.none
          ∙ (ap (λ (slots : List (Option _)). record { slots = slots; cursor = a.cursor }) (slots_of-none (length a.marks) a.slots.items)
          ∙ (ap (λ (cursor : ℕ). record { slots = nothing (length a.marks); cursor = cursor }) (ap (λ (m : Mail _). m.cursor) now)
          ∙ ap (λ (n : ℕ). unread (nothing n)) size));
    }

pub returns-else-count-ne0 : goal.returns-else-count-ne0
returns-else-count-ne0 g c =
    let a = c.self.inside in
    let now = c.self.view_is ∙ c.rewind.ensures.unread in
    let size : length a.marks ≡ length c.args.self.now.slots = sym (length-slots_of a.marks a.slots.items) ∙ ap (λ (m : Mail _). length m.slots) now in
    let none : count_marks a.marks ≡ 0 = omega (arith, c.count.ensures.count, c.if-count-ne0.false) in
    record {
      empty = c.rewind.ensures.unread
          ∙ (ap (λ (slots : List (Option _)). unread slots) (sym (ap (λ (m : Mail _). m.slots) now) ∙ slots_of-uncounted a.marks a.slots.items none)
          ∙ ap (λ (n : ℕ). unread (nothing n)) size);
    }
