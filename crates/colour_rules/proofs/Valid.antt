-- What holds of every node of the colouring, and keeps holding as parts of it change.
use Rattle.std.proofs.Common.{◌≡◌, ℕ, zero, suc, ◌+◌, ◌<◌, ◌≤◌, List, length, replicate, subst, sym, arith}
use Rattle.std.specs.Ordering.{nat_cmp}
use Rattle.std.specs.FinSet.{FinSet}
use Rattle.forests.specs.declared.numbering.Role.{Role}
use Rattle.forests.specs.declared.numbering.Role.TheVariants.{Unknown}
use Rattle.interference.specs.declared.limits.TheConstants.{MAX_DEGREE}
use Rattle.colour_rules.specs.Node.{AreBelow, HasForests, IsNode, Node, ports}
use Rattle.colour_rules.specs.declared.taken.TakenColours.{TakenColours}
use Rattle.colour_rules.specs.Taken.{barred_in, room_of}
use Rattle.colour_rules.specs.contracts.node.ColourNode.{the_view, the_invariant}
use Rattle.colour_rules.specs.declared.node.ColourNode.TheInside.{Inside}

-- what holds of a node that is seen
abbrev pub IsValid : Node → Type 0
IsValid node = IsNode node.sizes node.roles node.colours node.before node.colour_before node.merged node.barred

pub valid-seen : (inside : Inside) (node : Node) → the_view inside ≡ node → the_invariant inside → IsValid node
valid-seen inside node e h = subst IsValid e h.0

-- a node with other roles for its ports
pub valid-roles : (node : Node) (roles : List Role) → IsValid node → length roles ≡ ports node → HasForests node.sizes.forests roles →
    IsValid (record node { roles = roles })
valid-roles node roles v size known = record {
  degree_fits = v.degree_fits;
  bars_fit = v.bars_fit;
  forests_fit = v.forests_fit;
  ports_fit = subst (λ (n : ℕ). n ≤ MAX_DEGREE) (sym size) v.ports_fit;
  known = known;
  each_colour = v.each_colour;
  each_before = v.each_before;
  six = v.six;
  before_low = v.before_low;
  merged_low = v.merged_low;
  free = v.free;
}

-- and the invariant of the fields, where the sets have room
pub valid-inside : (inside : Inside) (node : Node) → the_view inside ≡ node → IsValid node →
    inside.greatest_degree + inside.greatest_bars < room_of inside.taken → the_invariant inside
valid-inside inside node e h room = (subst IsValid (sym e) h, room)

-- the fields with other sets, which bar the same colours and have as much room
pub invariant-taken : (inside : Inside) (taken : TakenColours) → the_invariant inside → barred_in taken ≡ barred_in inside.taken →
    room_of taken ≡ room_of inside.taken → the_invariant (record inside { taken = taken })
invariant-taken inside taken i barred room =
    let most = inside.greatest_degree + inside.greatest_bars in (
      subst (λ (set : FinSet nat_cmp). IsValid (record (the_view inside) { barred = set })) (sym barred) i.0,
      subst (λ (n : ℕ). most < n) (sym room) i.1,
    )

-- a node with other colours in its forests
pub valid-colours : (node : Node) (colours before : List ℕ) → IsValid node → length colours ≡ node.sizes.forests → length before ≡ node.sizes.forests →
    AreBelow 6 before → IsValid (record node { colours = colours; before = before })
valid-colours node colours before v size kept low = record {
  degree_fits = v.degree_fits;
  bars_fit = v.bars_fit;
  forests_fit = v.forests_fit;
  ports_fit = v.ports_fit;
  known = v.known;
  each_colour = size;
  each_before = kept;
  six = low;
  before_low = v.before_low;
  merged_low = v.merged_low;
  free = v.free;
}

-- roles that nobody knows yet, and numbers that are all 0
pub unknown-known : (n degree : ℕ) → HasForests n (replicate degree Unknown)
unknown-known n zero port h = absurd (omega arith)
unknown-known n (suc degree) zero h = tt
unknown-known n (suc degree) (suc port) h = unknown-known n degree port (omega arith)

pub zeros-below : (n : ℕ) → AreBelow 6 (replicate n 0)
zeros-below zero i h = absurd (omega arith)
zeros-below (suc n) zero h = omega arith
zeros-below (suc n) (suc i) h = zeros-below n i (omega arith)
