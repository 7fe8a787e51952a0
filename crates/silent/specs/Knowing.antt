-- What a node knows, and what it does.
use Rattle.std.specs.Prelude.{ℕ, List, Option, Result, Ok}
use Rattle.node_api.specs.Boxes.{nothing}
use Rattle.node_api.specs.Program.{Own, Program}
use Rattle.node_api.specs.declared.program.Refused.{Refused}
use Rattle.silent.specs.declared.payload.Word.{Word}

-- what it has found, and how many ports it has
pub record Known : Type 0 where
  pub number : ℕ
  pub degree : ℕ

-- at first
abbrev pub known_first : Own → Known
known_first own = record { number = 0; degree = own.degree }

-- what it sends at a pulse
abbrev pub sends : ℕ → Known → List (Option Word)
sends p s = nothing s.degree

-- what it knows after a pulse with this inbox
abbrev pub known_after : Known → ℕ → List (Option Word) → Known
known_after s p inbox = s

-- a node, and what it sends
abbrev pub with_sent : ℕ → Known → Known × List (Option Word)
with_sent p s = (s, sends p s)

abbrev pub known_next : Known → ℕ → List (Option Word) → Result (Known × List (Option Word)) Refused
known_next s p inbox = Ok (with_sent p (known_after s p inbox))

-- the program: its last pulse is the number of nodes
abbrev pub silent : Program Known Word Refused
silent = record {
  last = λ sizes again. sizes.nodes;
  ports = λ s. s.degree;
  made = known_first;
  greet = with_sent 0;
  next = known_next;
}
