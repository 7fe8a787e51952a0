use Rattle.std.proofs.Common.{◌≡◌, ◌<◌, ℕ, List, Some, ap, sym, subst, ◌∙◌, lit<}
use Rattle.std.specs.Prelude.{Option}
use Rattle.std.specs.Ordering.{nat_cmp}
use Rattle.std.specs.FinSet.{FinSet}
use Rattle.node_api.specs.Boxes.{at_port}
use Rattle.colour_rules.specs.declared.payload.Payload.{Payload}
use Rattle.colour_rules.specs.declared.payload.Payload.TheVariants.{Chosen}
use Rattle.colour_rules.specs.Choice.{with_chosen}
use Rattle.colour_rules.specs.declared.taken.TakenColours.{TakenColours}
use Rattle.colour_rules.specs.Taken.{barred_in, chosen_in, room_of}
use Rattle.colour_rules.proofs.taken.TakenColours.add_all.Goals as goal

-- there is room for the colours that came, in the form in which the sets are
has_room : (old taken : TakenColours) (slots : List (Option Payload)) → old ≡ taken →
    ((port colour : ℕ) → at_port slots port ≡ Some (Chosen colour) → colour < room_of old) →
    (port colour : ℕ) → at_port slots port ≡ Some (Chosen colour) → colour < room_of taken
has_room old taken slots e low port colour came = subst (λ (sets : TakenColours). colour < room_of sets) e (low port colour came)

pub add_chosen-requires : goal.add_chosen-requires
add_chosen-requires c =
    (lit< tt, has_room c.args.self.now _ c.args.inbox.now.slots c.in-Few.is c.requires.colours)

pub add_chosen-requires-in-More : goal.add_chosen-requires-in-More
add_chosen-requires-in-More c =
    (lit< tt, has_room c.args.self.now _ c.args.inbox.now.slots c.in-More.is c.requires.colours)

pub add_chosen-requires-in-Many : goal.add_chosen-requires-in-Many
add_chosen-requires-in-Many c =
    (lit< tt, has_room c.args.self.now _ c.args.inbox.now.slots c.in-Many.is c.requires.colours)

pub returns-in-Few-clause-chosen : goal.returns-in-Few-clause-chosen
returns-in-Few-clause-chosen c =
    c.add_chosen.ensures.chosen
    ∙ ap (λ (taken : TakenColours). with_chosen (chosen_in taken) c.args.inbox.now.slots) (sym c.in-Few.is)

pub returns-in-Few-clause-barred : goal.returns-in-Few-clause-barred
returns-in-Few-clause-barred c = ap barred_in (sym c.in-Few.is)

pub returns-in-Few-clause-room : goal.returns-in-Few-clause-room
returns-in-Few-clause-room c = ap room_of (sym c.in-Few.is)

pub returns-in-More-clause-chosen : goal.returns-in-More-clause-chosen
returns-in-More-clause-chosen c =
    c.add_chosen-in-More.ensures.chosen ∙ ap (λ (set : FinSet nat_cmp). with_chosen set c.args.inbox.now.slots) c.deref_mut.ensures.value
    ∙ ap (λ (taken : TakenColours). with_chosen (chosen_in taken) c.args.inbox.now.slots) (sym c.in-More.is)

pub returns-in-More-clause-barred : goal.returns-in-More-clause-barred
returns-in-More-clause-barred c = ap barred_in (sym c.in-More.is)

pub returns-in-More-clause-room : goal.returns-in-More-clause-room
returns-in-More-clause-room c = ap room_of (sym c.in-More.is)

pub returns-in-Many-clause-chosen : goal.returns-in-Many-clause-chosen
returns-in-Many-clause-chosen c =
    c.add_chosen-in-Many.ensures.chosen ∙ ap (λ (set : FinSet nat_cmp). with_chosen set c.args.inbox.now.slots) c.deref_mut-in-Many.ensures.value
    ∙ ap (λ (taken : TakenColours). with_chosen (chosen_in taken) c.args.inbox.now.slots) (sym c.in-Many.is)

pub returns-in-Many-clause-barred : goal.returns-in-Many-clause-barred
returns-in-Many-clause-barred c = ap barred_in (sym c.in-Many.is)

pub returns-in-Many-clause-room : goal.returns-in-Many-clause-room
returns-in-Many-clause-room c = ap room_of (sym c.in-Many.is)
