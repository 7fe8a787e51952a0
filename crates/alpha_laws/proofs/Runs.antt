-- What the laws of a program say of its synchronous run, port by port.
use Rattle.std.proofs.Common.{◌≡◌, ℕ, zero, suc, ◌<◌, List, refl, sym, ap, ◌∙◌, get_or, replicate}
use Rattle.std.specs.Prelude.{Option, None, Result, Ok, Err, IsOk, slice_index_or}
use Rattle.interference.specs.Net.{Net, IsNetwork, IsVertex, degree_of, neighbour_of, port_to}
use Rattle.interference.proofs.Neighbours.{port_to-is}
use Rattle.node_api.specs.Program.{Program, last_pulse_on}
use Rattle.node_api.specs.Run.{node_at, state_at, outbox_at, inbox_at, after}
use Rattle.node_api.specs.Laws.{IsProgram}
use Rattle.node_api.proofs.Runs.{node_at-more}
use Rattle.link_rule.specs.Sent.{sends}

-- A program's run: its outboxes are what goes to the neighbours by port, nothing is sent at the last
-- pulse, and nothing is refused before.
pub record Runs {S M E : Type 0} (program : Program S M E) (net : Net) : Type 0 where
  pub ports : (v i p : ℕ) → IsVertex net v → i < degree_of net v
      → slice_index_or (outbox_at program net p v) i None ≡ sends program net v (neighbour_of net v i) p
  pub silent : (v w : ℕ) → IsVertex net v → sends program net v w (last_pulse_on program net) ≡ None
  pub accepted : (p v : ℕ) → IsVertex net v → p < last_pulse_on program net
      → program.next (state_at program net p v) (suc p) (inbox_at program net (suc p) v) ≡ Ok (node_at program net (suc p) v)

none_at : {M : Type 0} (n i : ℕ) → get_or {A = Option M} (replicate n None) i None ≡ None
none_at zero i = refl
none_at (suc n) zero = refl
none_at (suc n) (suc i) = none_at n i

ok_is : {S M E : Type 0} (s : S) (degree : ℕ) (r : Result (S × List (Option M)) E) → IsOk r → r ≡ Ok (after s degree r)
ok_is s degree (Ok node) ok = refl
ok_is s degree (Err refused) ok = absurd cc

module _ {S M E : Type 0} (program : Program S M E) (laws : IsProgram program) (net : Net) (ok : IsNetwork net) where
  pub runs : Runs program net
  runs = record {
    ports = λ v i p vertex lt. ap (λ k. get_or (outbox_at program net p v) k None) (sym (port_to-is net ok v i vertex lt));
    silent = λ v w vertex.
        ap (λ (l : List (Option M)). get_or l (port_to net v w) None) (laws.silent net ok v vertex) ∙ none_at (degree_of net v) (port_to net v w);
    accepted = λ p v vertex lt.
        let s = state_at program net p v in
        ok_is s (degree_of net v) (program.next s (suc p) (inbox_at program net (suc p) v)) (laws.accepts net ok p v vertex lt)
        ∙ ap (λ (n : S × List (Option M)). Ok n) (sym (node_at-more program net p v));
  }
