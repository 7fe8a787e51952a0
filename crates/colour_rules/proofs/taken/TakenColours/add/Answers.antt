use Rattle.std.proofs.Common.{◌<◌, ap, sym, subst, ◌∙◌, lit<}
use Rattle.std.specs.Ordering.{nat_cmp}
use Rattle.std.specs.FinSet.{FinSet, insert}
use Rattle.colour_rules.specs.declared.taken.TakenColours.{TakenColours}
use Rattle.colour_rules.specs.Taken.{barred_in, chosen_in, room_of}
use Rattle.colour_rules.proofs.taken.TakenColours.add.Goals as goal

pub add-requires : goal.add-requires
add-requires c = (lit< tt, subst (λ (taken : TakenColours). c.args.colour < room_of taken) c.in-Few.is c.requires)

pub add-requires-in-More : goal.add-requires-in-More
add-requires-in-More c = (lit< tt, subst (λ (taken : TakenColours). c.args.colour < room_of taken) c.in-More.is c.requires)

pub add-requires-in-Many : goal.add-requires-in-Many
add-requires-in-Many c = (lit< tt, subst (λ (taken : TakenColours). c.args.colour < room_of taken) c.in-Many.is c.requires)

pub returns-in-Few-clause-chosen : goal.returns-in-Few-clause-chosen
returns-in-Few-clause-chosen c =
    c.add.ensures
    ∙ ap (λ (taken : TakenColours). insert (chosen_in taken) c.args.colour) (sym c.in-Few.is)

pub returns-in-Few-clause-barred : goal.returns-in-Few-clause-barred
returns-in-Few-clause-barred c = ap barred_in (sym c.in-Few.is)

pub returns-in-Few-clause-room : goal.returns-in-Few-clause-room
returns-in-Few-clause-room c = ap room_of (sym c.in-Few.is)

pub returns-in-More-clause-chosen : goal.returns-in-More-clause-chosen
returns-in-More-clause-chosen c =
    c.add-in-More.ensures ∙ ap (λ (set : FinSet nat_cmp). insert set c.args.colour) c.deref_mut.ensures.value
    ∙ ap (λ (taken : TakenColours). insert (chosen_in taken) c.args.colour) (sym c.in-More.is)

pub returns-in-More-clause-barred : goal.returns-in-More-clause-barred
returns-in-More-clause-barred c = ap barred_in (sym c.in-More.is)

pub returns-in-More-clause-room : goal.returns-in-More-clause-room
returns-in-More-clause-room c = ap room_of (sym c.in-More.is)

pub returns-in-Many-clause-chosen : goal.returns-in-Many-clause-chosen
returns-in-Many-clause-chosen c =
    c.add-in-Many.ensures ∙ ap (λ (set : FinSet nat_cmp). insert set c.args.colour) c.deref_mut-in-Many.ensures.value
    ∙ ap (λ (taken : TakenColours). insert (chosen_in taken) c.args.colour) (sym c.in-Many.is)

pub returns-in-Many-clause-barred : goal.returns-in-Many-clause-barred
returns-in-Many-clause-barred c = ap barred_in (sym c.in-Many.is)

pub returns-in-Many-clause-room : goal.returns-in-Many-clause-room
returns-in-Many-clause-room c = ap room_of (sym c.in-Many.is)
