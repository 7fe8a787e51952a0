-- What stands after a pulse of the synchronous run, and what the next pulse makes of it.
use Rattle.std.proofs.Common.{◌≡◌, ℕ, suc, List, refl, ap, ◌∙◌}
use Rattle.std.specs.Prelude.{map, Option, Ok, IsOk}
use Rattle.interference.specs.Net.{Net, IsNetwork, IsVertex, neighbours, degree_of}
use Rattle.node_api.specs.Run.{node_at, inbox_from, after}
use Rattle.node_api.proofs.Runs.{node_at-more}
use Rattle.colour_rules.specs.declared.payload.Payload.{Payload}
use Rattle.colour_rules.specs.Node.{Node}
use Rattle.colour_rules.specs.Program.{colouring, next}
use Rattle.node_api.proofs.Inboxes.{inbox_is}

abbrev pub at : Net → ℕ → ℕ → Node × List (Option Payload)
at net p v = node_at colouring net p v

-- after pulse p each node is this and has sent this
abbrev pub HoldsAfter : Net → ℕ → (ℕ → Node) → (ℕ → ℕ → Option Payload) → Type 0
HoldsAfter net p state sent = (v : ℕ) → IsVertex net v → at net p v ≡ (state v, map (sent v) (neighbours net v))

-- after pulse p each node's next pulse gives this
abbrev pub NextIs : Net → ℕ → (ℕ → Node) → (ℕ → ℕ → Option Payload) → Type 0
NextIs net p state sent = (v : ℕ) → IsVertex net v → next (at net p v).0 (suc p) (inbox_from net (at net p) v) ≡ Ok (state v, map (sent v) (neighbours net v))

-- nothing is refused after pulse p
abbrev pub NothingRefused : Net → ℕ → Type 0
NothingRefused net p = (v : ℕ) → IsVertex net v → IsOk (next (at net p v).0 (suc p) (inbox_from net (at net p) v))

pub stand_next : (net : Net) (p : ℕ) (state : ℕ → Node) (sent : ℕ → ℕ → Option Payload) → NextIs net p state sent → HoldsAfter net (suc p) state sent
stand_next net p state sent goes v is_vertex =
    node_at-more colouring net p v ∙ ap (λ r. after (at net p v).0 (degree_of net v) r) (goes v is_vertex)

pub fine_next : (net : Net) (p : ℕ) (state : ℕ → Node) (sent : ℕ → ℕ → Option Payload) → NextIs net p state sent → NothingRefused net p
fine_next net p state sent goes v is_vertex = rw (goes v is_vertex) refl

-- from what was sent to what comes
pub comes : (net : Net) → IsNetwork net → (p : ℕ) (state : ℕ → Node) (sent : ℕ → ℕ → Option Payload) → HoldsAfter net p state sent → (n : ℕ) → suc p ≡ n →
    (v : ℕ) → IsVertex net v → next (at net p v).0 (suc p) (inbox_from net (at net p) v) ≡ next (state v) n (map (λ w. sent w v) (neighbours net v))
comes net ok p state sent stand n e v is_vertex =
    ap (λ k. next (at net p v).0 k (inbox_from net (at net p) v)) e
    ∙ (ap (λ node. next node n (inbox_from net (at net p) v)) (ap (λ pair. pair.0) (stand v is_vertex))
    ∙ ap (λ inbox. next (state v) n inbox) (inbox_is net ok (at net p) sent (λ w h. ap (λ pair. pair.1) (stand w h)) v is_vertex))
