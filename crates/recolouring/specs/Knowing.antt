-- The classes of a colouring choose anew, a class a pulse: a node takes the least colour that isn't barred at it and
-- that no neighbour which has chosen anew has, and says so. That is a sweep. Without bars a pass is a sweep. With bars
-- it is two: before they choose the least, the classes rise, the greatest first, each node to a colour that is at most
-- the greatest one of a neighbour. A pass is made again as often as the network says, from the colours to which it led.
use Rattle.std.specs.Prelude.{ℕ, zero, suc, ◌+◌, ◌-◌, ◌*◌, ◌/◌, ◌%◌, ◌==◌, ◌&&◌, ◌||◌, Bool, true, false, not}
use Rattle.std.specs.Prelude.{if◌then◌else◌, nat_lt, List, Option, Some, Ok, replicate}
use Rattle.std.specs.Ordering.{nat_cmp}
use Rattle.std.specs.FinSet.{FinSet, contains, empty, insert}
use Rattle.forest_merge.specs.Free.{least_free_colour}
use Rattle.forest_merge.specs.declared.chosen.TheConstants.{COLOURS}
use Rattle.node_api.specs.Boxes.{fold_slots, nothing}
use Rattle.node_api.specs.Program.{Program, Sizes, span}
use Rattle.node_api.specs.declared.program.Refused.{Refused}
use Rattle.followed.specs.declared.said.Said.{Said}
use Rattle.followed.specs.declared.said.Said.TheVariants.{First, Then}
use Rattle.followed.specs.Followed.{Both, Sequel, followed}
use Rattle.colour_rules.specs.declared.payload.Payload.{Payload}
use Rattle.colour_rules.specs.Node.{Node, last, ports, up_to}
use Rattle.colour_rules.specs.Program.{colouring}
use Rattle.recolouring.specs.declared.anew.Anew.{Anew}

-- what a node has beside its first colour
pub record Recoloured : Type 0 where
  -- the last pulse of the colouring, the greatest colour that there may be, and whether a node has bars
  pub until : ℕ
  pub greatest : ℕ
  pub barring : Bool
  -- the colours that neighbours have chosen in this sweep, and those that are barred at the node
  pub chosen : FinSet nat_cmp
  pub barred : FinSet nat_cmp
  -- the colour with which it came into this sweep, and the colour that it has chosen last
  pub before : ℕ
  pub colour : ℕ

-- what is sent: a payload of the colouring, or a colour that was chosen anew
abbrev pub Wire : Type 0
Wire = Said Payload Anew

-- what a node that chooses anew sends: its colour
abbrev pub says : ℕ → Wire
says c = Then (record { 0 = c })

-- a payload taken into the set of the colours that neighbours have chosen anew
abbrev pub and_anew : FinSet nat_cmp → ℕ → Wire → FinSet nat_cmp
and_anew set port (First payload) = set
and_anew set port (Then anew) = if nat_lt anew.0 COLOURS then insert set anew.0 else set

-- all that came
abbrev pub with_anew : FinSet nat_cmp → List (Option Wire) → FinSet nat_cmp
with_anew set slots = fold_slots and_anew set 0 slots

-- whether a colour is taken for a node that has heard of these
abbrev pub is_taken : FinSet nat_cmp → FinSet nat_cmp → ℕ → Bool
is_taken chosen barred c = contains chosen c || contains barred c

-- whether some node of the network has bars
abbrev pub has_bars : Sizes → Bool
has_bars sizes = nat_lt 0 sizes.greatest_bars

-- how many sweeps a pass has: with bars it has two
abbrev pub sweeps : Sizes → ℕ
sweeps sizes = if has_bars sizes then 2 else 1

-- whether the classes rise in a sweep: with bars they do in the first of each pass
abbrev pub rises : Bool → ℕ → Bool
rises barring sweep = barring && (sweep % 2 == 0)

-- the place of a class if those of this remainder by 2 are first, each half from the greatest down
abbrev pub place_by_halves : ℕ → ℕ → ℕ → ℕ
place_by_halves half greatest c =
    if c % 2 == half then (greatest - c) / 2 else (greatest + 2 - half) / 2 + (greatest - c) / 2

-- the place of a class in a sweep. Without bars the order of the sweeps is, in turn: from the greatest down, the even
-- ones first, the odd ones first. With bars they rise from the greatest down, and choose from the least up.
abbrev pub place : Bool → ℕ → ℕ → ℕ → ℕ
place barring sweep greatest c =
    if barring then (if sweep % 2 == 0 then greatest - c else c)
    else if sweep % 3 == 0 then greatest - c
    else place_by_halves (sweep % 3 - 1) greatest c

-- whether pulse q of a sweep is that of a node's class
abbrev pub is_turn : Recoloured → ℕ → ℕ → Bool
is_turn s sweep q = place s.barring sweep s.greatest s.before == q

-- the greatest of the d colours above one that isn't taken, and is below a colour that a neighbour has chosen (`under`:
-- such a one is above all d); this one, if there is none
abbrev pub raised : FinSet nat_cmp → FinSet nat_cmp → ℕ → ℕ → Bool → ℕ
raised chosen barred before zero under = before
raised chosen barred before (suc d) under =
    if under && not (is_taken chosen barred (before + suc d)) then before + suc d
    else raised chosen barred before d (under || contains chosen (before + suc d))

-- the colour that a node chooses
abbrev pub choice : Recoloured → ℕ → FinSet nat_cmp → ℕ
choice s sweep chosen =
    if rises s.barring sweep then raised chosen s.barred s.before (s.greatest - s.before) false
    else least_free_colour s.greatest (is_taken chosen s.barred)

-- its colour after a pulse
abbrev pub colour_after : Recoloured → ℕ → FinSet nat_cmp → Bool → ℕ
colour_after s sweep chosen turn = if turn then choice s sweep chosen else s.colour

abbrev pub recoloured : Recoloured → ℕ → FinSet nat_cmp → Bool → Recoloured
recoloured s sweep chosen turn = record s { chosen = chosen; colour = colour_after s sweep chosen turn }

-- what all ports are told: by a node that chooses before the last pulse, its colour
abbrev pub told : Node → Bool → ℕ → List (Option Wire)
told node b c = if b then replicate (ports node) (Some (says c)) else nothing (ports node)

-- a pulse, by what a node has heard of, and by whether it is its turn
abbrev pub chose : Node → Recoloured → ℕ → ℕ → FinSet nat_cmp → Bool → Recoloured × List (Option Wire)
chose node s sweep q chosen turn =
    (recoloured s sweep chosen turn, told node (turn && nat_lt q s.greatest) (colour_after s sweep chosen turn))

-- a node comes into a sweep: its colour is the one before it, and no neighbour has chosen
abbrev pub entering : Node → Recoloured → ℕ → Recoloured
entering node s q = record s { chosen = empty; before = if q == 0 then node.merged else s.colour }

-- it does so at the first pulse of a sweep
abbrev pub ready : Node → Recoloured → ℕ → Recoloured
ready node s q = if q % (s.greatest + 1) == 0 then entering node s q else s

-- pulse q of a sweep
abbrev pub class_next : Node → Recoloured → ℕ → ℕ → List (Option Wire) → Recoloured × List (Option Wire)
class_next node s sweep q inbox = chose node s sweep q (with_anew s.chosen inbox) (is_turn s sweep q)

-- a pulse, from 0
abbrev pub anew_next : Node → Recoloured → ℕ → List (Option Wire) → Recoloured × List (Option Wire)
anew_next node s q inbox = class_next node (ready node s q) (q / (s.greatest + 1)) (q % (s.greatest + 1)) inbox

-- what follows the colouring: a pass, and as many again
abbrev pub recolours : Sequel Node Recoloured Payload Anew
recolours = record {
  until = λ s. s.until;
  last = λ sizes again. last sizes + (again + 1) * sweeps sizes * (span sizes + 1);
  begin = λ own. record {
    until = last own.sizes;
    greatest = span own.sizes;
    barring = has_bars own.sizes;
    chosen = empty;
    barred = up_to (span own.sizes) own.bars;
    before = 0;
    colour = 0;
  };
  next = λ node s q inbox. Ok (anew_next node s q inbox);
}

-- the program
abbrev pub recolouring : Program (Both Node Recoloured) Wire Refused
recolouring = followed colouring recolours
