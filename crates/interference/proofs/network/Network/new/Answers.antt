use Rattle.std.proofs.Common.{All, ◌<◌, ◌≤◌, length, arith}
use Rattle.std.proofs.lemmas.List.{get_or_default}
use Rattle.interference.specs.Net.{id_bound}
use Rattle.interference.specs.declared.limits.TheConstants.{MAX_DEGREE}
use Rattle.interference.specs.Making.{EdgesFit}
use Rattle.interference.specs.Filling.{AreDegrees, IsFirstSameId, HasNoSameId}
use Rattle.interference.proofs.Faults.{first_crowded, none_crowded, first_pair, none_same_id}
use Rattle.interference.proofs.Made.{made-network}
use Rattle.interference.proofs.network.Network.new.Goals as goal

pub returns-in-Some-clause-fault : goal.returns-in-Some-clause-fault
returns-in-Some-clause-fault c =
    let fit : EdgesFit (length c.args.ids.now) c.args.edges.now = rw c.requires.ids c.requires.edges in
    let are : AreDegrees (length c.args.ids.now) c.args.edges.now c.in_ok-degrees.degrees.items = rw c.requires.ids c.in_ok-degrees.ensures in
    first_crowded c.args.ids.now c.args.edges.now c.args.bars.now c.in_ok-degrees.degrees.items fit are c.in-Some.v
    (rw (← c.deref.ensures.value) c.in-Some.ensures)

pub returns-in-Some-2-clause-fault : goal.returns-in-Some-2-clause-fault
returns-in-Some-2-clause-fault c =
    let fit : EdgesFit (length c.args.ids.now) c.args.edges.now = rw c.requires.ids c.requires.edges in
    let are : AreDegrees (length c.args.ids.now) c.args.edges.now c.in_ok-degrees.degrees.items = rw c.requires.ids c.in_ok-degrees.ensures in
    let few : All (λ degree. degree ≤ MAX_DEGREE) c.in_ok-degrees.degrees.items = rw (← c.deref.ensures.value) c.in_default.ensures in
    let first : IsFirstSameId c.args.ids.now (length c.args.ids.now) (c.in-Some-2.v, c.in-Some-2.w) = rw c.in-Some-2.is at c.in_ok-v.ensures in
    let same = first_pair c.args.ids.now c.args.edges.now c.args.bars.now c.in-Some-2.v c.in-Some-2.w first in
    (none_crowded c.args.ids.now c.args.edges.now c.args.bars.now c.in_ok-degrees.degrees.items fit are few, same.0, same.1)

pub packed-requires-clause-network : goal.packed-requires-clause-network
packed-requires-clause-network c =
    let fit : EdgesFit (length c.args.ids.now) c.args.edges.now = rw c.requires.ids c.requires.edges in
    let are : AreDegrees (length c.args.ids.now) c.args.edges.now c.in_ok-degrees.degrees.items = rw c.requires.ids c.in_ok-degrees.ensures in
    let few : All (λ degree. degree ≤ MAX_DEGREE) c.in_ok-degrees.degrees.items = rw (← c.deref.ensures.value) c.in_default.ensures in
    let none : HasNoSameId c.args.ids.now (length c.args.ids.now) = rw c.in_default-2.is at c.in_ok-v.ensures in
    let small : All (λ x. x < id_bound) c.args.ids.now = λ k d h. omega (arith, get_or_default c.args.ids.now k d 0 h, c.type_inv.ids k) in
    made-network c.args.ids.now c.args.edges.now c.args.bars.now small fit.limits (rw c.requires.ids c.requires.bars)
    (none_crowded c.args.ids.now c.args.edges.now c.args.bars.now c.in_ok-degrees.degrees.items fit are few)
    (none_same_id c.args.ids.now c.args.edges.now c.args.bars.now none)
