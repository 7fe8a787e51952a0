use Rattle.std.proofs.Common.{ℕ, sym, subst}
use Rattle.std.specs.Prelude.{◌↔◌, IsTrue, nat_lt}
use Rattle.node_api.specs.Boxes.{Mail, HasFrom}
use Rattle.node_api.specs.Slots.{slots_of}
use Rattle.node_api.proofs.SlotCursor.{has_more}
use Rattle.node_api.proofs.reader.Reader.has_next.Goals as goal

pub returns : goal.returns
returns g c =
    let a = c.self.inside in
    let counted = subst (λ (n : ℕ). IsTrue (nat_lt a.read n) ↔ HasFrom (slots_of a.marks.now a.slots.now) a.cursor) (sym c.count.ensures.count)
    (has_more a.marks.now a.slots.now a.read a.cursor c.self.invariant.made c.self.invariant.read) in
    record { more = subst (λ (mail : Mail g.row.T.Denot). IsTrue (nat_lt a.read c.count.result) ↔ HasFrom mail.slots mail.cursor) c.self.view_is counted }
