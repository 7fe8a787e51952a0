-- What nodes that were gathered are, if they keep the lists of their ends and all ends have met.
use Rattle.std.specs.Prelude.{◌≡◌, ℕ, ◌<◌, List, ◌++◌, length, Option, Some, None}
use Rattle.interference.specs.Net.{Net, IsVertex, degree_of}
use Rattle.node_api.specs.Program.{Program, last_pulse_on}
use Rattle.wires.specs.declared.wire.Wire.{Wire}
use Rattle.alpha_core.specs.View.{Node}
use Rattle.alpha_laws.specs.Kept.{NodeKept}
use Rattle.alpha_laws.specs.Simulates.{Simulates, taken_over}
use Rattle.wired_nodes.specs.declared.aside.Aside.{Aside}
use Rattle.wired_nodes.specs.declared.aside.WhyAside.TheVariants.{Refused}
use Rattle.wired_nodes.specs.Node.{by_port, reacted_to, IsAside}

-- Each node keeps its links with the lists that its ends put and took, but for a wire that it refused and set aside, if
-- it did; and what was put on each link is what was taken from it, followed by what it holds.
pub record EndsHaveMet {S M E : Type 0} (program : Program S M E) (net : Net) (nodes : ℕ → Node S M)
    (asides : ℕ → Option (Aside M)) (puts takens : ℕ → List (List (Wire M))) (held : ℕ → ℕ → List (Wire M))
    : Type 0 where
  pub each : (v : ℕ) → IsVertex net v
      → NodeKept program net v (nodes v) (by_port (puts v)) (by_port (reacted_to (asides v) (takens v)))
  pub refused : (v : ℕ) → IsVertex net v → (a : Aside M) → asides v ≡ Some a
      → IsAside (last_pulse_on program net) (nodes v).view (takens v) a
  pub by_refusal : (v : ℕ) → IsVertex net v → (a : Aside M) → asides v ≡ Some a → a.why ≡ Refused
  pub ports : (v : ℕ) → IsVertex net v → length (takens v) ≡ degree_of net v
  pub splits : (v i : ℕ) → IsVertex net v → i < degree_of net v
      → by_port (puts v) i ≡ taken_over net (λ w j. by_port (takens w) j) v i ++ held v i

-- Then no node has set a wire aside, and the nodes simulate the synchronous run.
abbrev pub MetNodesSimulate : {S M E : Type 0} → Program S M E → Net → Type 0
MetNodesSimulate {S} {M} program net =
    (nodes : ℕ → Node S M) (asides : ℕ → Option (Aside M)) (puts takens : ℕ → List (List (Wire M)))
    (held : ℕ → ℕ → List (Wire M))
    → EndsHaveMet program net nodes asides puts takens held
    → ((v : ℕ) → IsVertex net v → asides v ≡ None)
    × Simulates program net nodes (λ v i. by_port (puts v) i) (λ v i. by_port (takens v) i)
