use Rattle.std.proofs.Common.{◌≡◌, ap, sym, ◌∙◌}
use Rattle.std.proofs.lemmas.List.Sorted.{searched}
use Rattle.interference.specs.Net.{place_of}
use Rattle.forests.specs.declared.numbering.Role.TheVariants.{Up}
use Rattle.forests.proofs.Orders.{ascending-rises, ascending-apart}
use Rattle.forests.proofs.Places.{place-at, not_there}
use Rattle.forests.proofs.numbering.role_among.Goals as goal

pub returns-in-Ok-clause-up : goal.returns-in-Ok-clause-up
returns-in-Ok-clause-up c =
    let xs = c.args.higher.now in
    let found = searched xs c.args.id c.binary_search.result c.binary_search.ensures.position (ascending-rises (λ i. i) xs 0 c.requires.ascending) in
    let at = rw c.in-Ok.is at found in
    let place : place_of c.args.id xs ≡ c.in-Ok.forest = ap (λ x. place_of x xs) (sym at.1) ∙
    place-at xs c.in-Ok.forest (ascending-apart (λ i. i) xs c.requires.ascending) at.0 in
    λ has. ap (λ f. Up f) (sym place)

pub returns-in-Err-clause-up : goal.returns-in-Err-clause-up
returns-in-Err-clause-up c =
    let xs = c.args.higher.now in
    let found = searched xs c.args.id c.binary_search.result c.binary_search.ensures.position (ascending-rises (λ i. i) xs 0 c.requires.ascending) in
    let at = rw c.in-Err.is at found in
    λ has. absurd (not_there xs c.args.id c.in-Err.field-0 at.1 at.2 has)
