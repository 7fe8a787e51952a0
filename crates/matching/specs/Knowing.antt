-- A maximal matching (Panconesi and Rizzi 2001): what a node knows, and what it does. Up to pulse 12 it is a node of
-- the colouring, with three colours in each forest. Then each forest has a turn for each of its colours, of two pulses:
-- at the first each free node says to its parent that it is free, at the second each free node of this colour takes one
-- of the children that did.
use Rattle.std.specs.Prelude.{ℕ, ◌+◌, ◌-◌, ◌*◌, ◌/◌, ◌%◌, ◌==◌, ◌&&◌, Bool, if◌then◌else◌, nat_lt}
use Rattle.std.specs.Prelude.{List, length, map, slice_index, slice_set, Option, Some, None, Ok}
use Rattle.std.specs.Option.{option_or}
use Rattle.node_api.specs.Boxes.{nothing}
use Rattle.node_api.specs.First.{first_came}
use Rattle.node_api.specs.Program.{Program}
use Rattle.node_api.specs.declared.program.Refused.{Refused}
use Rattle.followed.specs.Followed.{Both, Sequel, followed}
use Rattle.forests.specs.declared.numbering.Role.{Role}
use Rattle.forests.specs.declared.numbering.Role.TheVariants.{Unknown, Up, Down}
use Rattle.colour_rules.specs.declared.phase.TheConstants.{FIRST_MERGE}
use Rattle.followed.specs.declared.said.Said.{Said}
use Rattle.followed.specs.declared.said.Said.TheVariants.{Then}
use Rattle.colour_rules.specs.declared.payload.Payload.{Payload}
use Rattle.matching.specs.declared.proposal.Proposal.{Proposal}
use Rattle.matching.specs.declared.proposal.Proposal.TheVariants.{Free, Take}
use Rattle.colour_rules.specs.Node.{Node, ports}
use Rattle.colour_rules.specs.Program.{colouring}

-- what is sent: a payload of the colouring, or an offer or a choice
abbrev pub Wire : Type 0
Wire = Said Payload Proposal

-- the sender, a child in forest f, is free
abbrev pub offers : ℕ → Wire
offers f = Then (Free f)

-- the sender takes the receiver, its child in forest f
abbrev pub chooses : ℕ → Wire
chooses f = Then (Take f)

-- what a port is told by a free node: the parent in forest f, that it is free
abbrev pub tells_free : ℕ → Role → Option Wire
tells_free f (Up g) = if g == f then Some (offers g) else None
tells_free f Unknown = None
tells_free f (Down g) = None

-- what all ports are told, by the partner of the node
abbrev pub told_free : Option ℕ → ℕ → List Role → List (Option Wire)
told_free None f roles = map (tells_free f) roles
told_free (Some port) f roles = nothing (length roles)

-- the first pulse of a turn of forest f, by the partner
abbrev pub offered : Node → Option ℕ → ℕ → Option ℕ × List (Option Wire)
offered node partner f = (partner, told_free partner f node.roles)

-- whether the nodes that take a child are of this one's colour in the forest
abbrev pub is_turn : Node → ℕ → ℕ → Bool
is_turn node f c = nat_lt f node.sizes.forests && (slice_index node.colours f == c)

-- only a free node takes a child
abbrev pub unless_matched : Option ℕ → Option ℕ → Option ℕ
unless_matched None came = came
unless_matched (Some port) came = None

-- the port of the child that a node takes at a turn, by the first port at which something came
abbrev pub takes : Node → Option ℕ → ℕ → ℕ → Option ℕ → Option ℕ
takes node partner f c came = if is_turn node f c then unless_matched partner came else None

-- what n ports are told: the child that is taken, that it is
abbrev pub told_taken : ℕ → ℕ → Option ℕ → List (Option Wire)
told_taken n f None = nothing n
told_taken n f (Some port) = slice_set (nothing n) port (Some (chooses f))

-- the second pulse of a turn
abbrev pub took : Node → Option ℕ → ℕ → Option ℕ → Option ℕ × List (Option Wire)
took node partner f child = (option_or partner child, told_taken (ports node) f child)

-- pulse q of the turns, from 0
abbrev pub turned : Node → Option ℕ → ℕ → List (Option Wire) → Option ℕ × List (Option Wire)
turned node partner q inbox =
    if q % 2 == 0 then offered node (option_or partner (first_came inbox)) (q / 6)
    else took node partner (q / 6) (takes node partner (q / 6) (q % 6 / 2) (first_came inbox))

-- what follows the colouring up to pulse 12: three turns of two pulses for each forest, and one to read what was sent
-- last
abbrev pub turns : Sequel Node (Option ℕ) Payload Proposal
turns = record {
  until = λ partner. FIRST_MERGE - 1;
  last = λ sizes again. FIRST_MERGE + 6 * sizes.forests;
  begin = λ own. None;
  next = λ node partner q inbox. Ok (turned node partner q inbox);
}

-- the program
abbrev pub matching : Program (Both Node (Option ℕ)) Wire Refused
matching = followed colouring turns
