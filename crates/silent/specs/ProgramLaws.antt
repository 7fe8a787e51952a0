-- The program keeps the laws of every program: a node keeps its ports, nothing is refused, and nothing is sent at the
-- last pulse.
use Rattle.std.proofs.Common.{◌≡◌, ℕ, zero, suc, List, length, refl, ap, ◌∙◌}
use Rattle.std.proofs.lemmas.List.{length-replicate}
use Rattle.std.specs.Prelude.{Option, None}
use Rattle.interference.specs.Net.{Net, count_of, degree_of}
use Rattle.node_api.specs.Boxes.{nothing}
use Rattle.node_api.specs.Laws.{IsProgram, KeepsPorts}
use Rattle.node_api.specs.Run.{outbox_at}
use Rattle.node_api.proofs.Runs.{node_at-none, node_at-more, node_at-ports}
use Rattle.silent.specs.declared.payload.Word.{Word}
use Rattle.silent.specs.Knowing.{Known, silent}

-- an outbox with nothing in it
abbrev none : ℕ → List (Option Word)
none n = nothing n

-- it has a slot for each port
slots : (n : ℕ) → length (none n) ≡ n
slots n = length-replicate n None

keeps : KeepsPorts silent
keeps = record {
  made_ports = λ own. refl;
  greet_shape = λ s. (refl, slots s.degree);
  next_shape = λ s p inbox is. (refl, slots s.degree);
}

-- at no pulse anything is sent
quiet : (net : Net) (p v : ℕ) → outbox_at silent net p v ≡ none (degree_of net v)
quiet net zero v = ap (λ (node : Known × List (Option Word)). node.1) (node_at-none silent net v)
quiet net (suc p) v =
    ap (λ (node : Known × List (Option Word)). node.1) (node_at-more silent net p v)
    ∙ ap none (node_at-ports silent net keeps p v).0

pub silent_laws : IsProgram silent
silent_laws = record {
  keeps_ports = keeps;
  accepts = λ net ok p v vertex below. refl;
  silent = λ net ok v vertex. quiet net (count_of net) v;
}
