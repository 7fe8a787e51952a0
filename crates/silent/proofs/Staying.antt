-- What the nodes know after each pulse.
use Rattle.std.proofs.Common.{◌≡◌, ℕ, zero, suc, List, ap, ◌∙◌}
use Rattle.std.specs.Prelude.{Option}
use Rattle.interference.specs.Net.{Net}
use Rattle.node_api.specs.Run.{state_at}
use Rattle.node_api.proofs.Runs.{node_at-none, node_at-more}
use Rattle.silent.specs.declared.payload.Word.{Word}
use Rattle.silent.specs.Knowing.{Known, silent}

-- it never changes
pub number-stays : (net : Net) (p v : ℕ) → (state_at silent net p v).number ≡ 0
number-stays net zero v = ap (λ (node : Known × List (Option Word)). node.0.number) (node_at-none silent net v)
number-stays net (suc p) v =
    ap (λ (node : Known × List (Option Word)). node.0.number) (node_at-more silent net p v) ∙ number-stays net p v
