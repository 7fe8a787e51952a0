-- The election: what a node makes of an inbox, what it sends, and what it refuses.
use Rattle.std.specs.Prelude.{ℕ, List, Option, Some, Result, Ok, Err, if◌then◌else◌, nat_lt, max, replicate}
use Rattle.node_api.specs.Boxes.{nothing, fold_slots}
use Rattle.node_api.specs.Program.{Own, Program}
use Rattle.node_api.specs.declared.program.Refused.{Refused}
use Rattle.leader.specs.declared.candidate.Candidate.{Candidate}
use Rattle.leader.specs.declared.rules.TheConstants.{AFTER_LAST}
use Rattle.leader.specs.Elector.{Elector}

-- at first a node knows its own identifier
abbrev pub elector_first : Own → Elector
elector_first own = record { best = own.id; degree = own.degree; last = own.sizes.nodes }

-- the greatest identifier at every port, before the last pulse, and from it on nothing
abbrev pub sends : ℕ → Elector → List (Option Candidate)
sends p s = if nat_lt p s.last then replicate s.degree (Some (record { 0 = s.best })) else nothing s.degree

-- what a node sends that knew this identifier before: nothing if it heard no greater one
abbrev pub sends_new : ℕ → ℕ → Elector → List (Option Candidate)
sends_new p known s = if nat_lt known s.best then sends p s else nothing s.degree

-- the greatest identifier so far, with one payload more; after the last pulse none may come
abbrev pub and_heard : ℕ → ℕ → Result ℕ Refused → ℕ → Candidate → Result ℕ Refused
and_heard last p (Ok best) port x =
    if nat_lt last p then Err (record { rule = AFTER_LAST; port = Some port }) else Ok (max best x.0)
and_heard last p (Err refused) port x = Err refused

-- the greatest of what a node knows and of what came at this pulse, or the refusal of the first port that broke a rule
abbrev pub heard : ℕ → ℕ → ℕ → List (Option Candidate) → Result ℕ Refused
heard known last p inbox = fold_slots (and_heard last p) (Ok known) 0 inbox

-- a node that knows this identifier now
abbrev pub elector_after : Elector → ℕ → Elector
elector_after s best = record { best = best; degree = s.degree; last = s.last }

abbrev pub next_from : Elector → ℕ → Result ℕ Refused → Result (Elector × List (Option Candidate)) Refused
next_from s p (Ok best) = Ok (elector_after s best, sends_new p s.best (elector_after s best))
next_from s p (Err refused) = Err refused

-- the program: its last pulse is the number of nodes
abbrev pub election : Program Elector Candidate Refused
election = record {
  last = λ sizes again. sizes.nodes;
  ports = λ s. s.degree;
  made = elector_first;
  greet = λ s. (s, sends 0 s);
  next = λ s p inbox. next_from s p (heard s.best s.last p inbox);
}
