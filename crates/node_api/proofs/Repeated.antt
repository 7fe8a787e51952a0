-- What a node does is the same however often a program repeats itself: only the last pulse depends on it.
use Rattle.std.proofs.Common.{◌≡◌, ℕ, zero, suc, List, sym, ◌∙◌, ap}
use Rattle.std.proofs.Math.Path.{fun_ext}
use Rattle.std.specs.Prelude.{Option}
use Rattle.interference.specs.Net.{Net, degree_of, repeated}
use Rattle.node_api.specs.Program.{Program}
use Rattle.node_api.specs.Run.{node_at, inbox_from, after}
use Rattle.node_api.proofs.Runs.{node_at-none, node_at-more}

module _ {S M E : Type 0} (program : Program S M E) (again : ℕ) (net : Net) where
  pub node_at-repeated : (p v : ℕ) → node_at program (repeated again net) p v ≡ node_at program net p v
  node_at-repeated zero v = node_at-none program (repeated again net) v ∙ sym (node_at-none program net v)
  node_at-repeated (suc p) v =
      node_at-more program (repeated again net) p v
      ∙ ap (λ (nodes : ℕ → S × List (Option M)).
      after (nodes v).0 (degree_of net v) (program.next (nodes v).0 (suc p) (inbox_from net nodes v)))
      (fun_ext (node_at-repeated p))
      ∙ sym (node_at-more program net p v)
