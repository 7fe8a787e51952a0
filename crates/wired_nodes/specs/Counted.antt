-- How the counter of a node counts its events, with a transcript or without.
use Rattle.std.specs.Prelude.{◌≡◌, ◌+◌, ◌≤◌, ℕ, List, [], ◌∷◌, length, map, max, None}
use Rattle.std.specs.declared.cmp.PartialEq as equality
use Rattle.wires.specs.StampedWires.{last_stamp}
use Rattle.wires.specs.declared.stamped.Stamped.{Stamped}
use Rattle.node_api.specs.declared.program.NodeProgram as program
use Rattle.node_api.specs.declared.payload.PayloadText as text
use Rattle.link_queue.specs.Ends.{put_stamped, taken_stamped}
use Rattle.wired_nodes.specs.Node.{by_port}
use Rattle.wired_nodes.specs.declared.wired.WiredPut.{WiredPut}
use Rattle.wired_nodes.specs.declared.wired.WiredTake.{WiredTake}
use Rattle.wired_nodes.specs.declared.wiring.Wiring as wiring
use Rattle.wired_nodes.specs.declared.node.Node.{Node}

module _ {M : Type 0} where
  -- how many wires the lists have
  abbrev pub wires_in : List (List (Stamped M)) → ℕ
  wires_in [] = 0
  wires_in (wires ∷ lists) = length wires + wires_in lists

  -- the greatest stamp of a wire, or 0 if there is none
  abbrev pub greatest_stamp : List (Stamped M) → ℕ
  greatest_stamp [] = 0
  greatest_stamp (wire ∷ wires) = max wire.stamp (greatest_stamp wires)

  abbrev pub greatest_in : List (List (Stamped M)) → ℕ
  greatest_in [] = 0
  greatest_in (wires ∷ lists) = max (greatest_stamp wires) (greatest_in lists)

module _ {J T : Type 0} {j : wiring.Ghosts J} where
  -- the stamp of the last wire that was put, or taken, by a port
  abbrev pub last_put : List (WiredPut J T j) → ℕ → ℕ
  last_put puts i = last_stamp (by_port (map (λ e. put_stamped e.end) puts) i)

  abbrev pub last_taken : List (WiredTake J T j) → ℕ → ℕ
  last_taken takes i = last_stamp (by_port (map (λ e. taken_stamped e.end) takes) i)

module _ {J P T : Type 0} {j : wiring.Ghosts J} {p : program.Ghosts P T} {t : text.Ghosts T}
    {q : equality.Ghosts T} where
  -- A put counts one, and the wire that was put has the new number as its stamp.
  pub record CountsPut (port : ℕ) (old new : Node J P T j p t q) : Type 0 where
    pub one_more : new.counter ≡ old.counter + 1
    pub stamp : last_put new.puts.items port ≡ new.counter

  -- A take moves the counter to one more than the greater of its number and the stamp of the wire that came. If the
  -- wire was set aside, the counter stays.
  pub record CountsTake (port : ℕ) (old new : Node J P T j p t q) : Type 0 where
    pub past : new.aside ≡ None → new.counter ≡ max old.counter (last_taken new.takes.items port) + 1
    pub stays : (new.aside ≡ None → ⊥) → new.counter ≡ old.counter

  -- how many pulses the node has made, and how many wires its ends have put and taken
  abbrev pub events_of : Node J P T j p t q → ℕ
  events_of node =
      node.alpha.node.view.pulse + (wires_in (map (λ e. put_stamped e.end) node.puts.items)
      + wires_in (map (λ e. taken_stamped e.end) node.takes.items))

  -- the greatest stamp of the wires that its ends have taken
  abbrev pub greatest_taken : Node J P T j p t q → ℕ
  greatest_taken node = greatest_in (map (λ e. taken_stamped e.end) node.takes.items)

  -- The counter moves by at most one for each event between the two, beyond its number before and the greatest stamp of
  -- a wire that was taken; and it doesn't go back.
  pub record CountsOn (old new : Node J P T j p t q) : Type 0 where
    pub onward : old.counter ≤ new.counter
    pub came : greatest_taken old ≤ greatest_taken new
    pub events : events_of old ≤ events_of new
    pub within : new.counter + events_of old ≤ max old.counter (greatest_taken new) + events_of new
