use Rattle.std.proofs.Common.{◌≡◌, ℕ, ◌+◌, ◌*◌, arith, subst}
use Rattle.std.specs.Prelude.{None}
use Rattle.interference.specs.Net.{Net, forest_count_of}
use Rattle.colour_rules.specs.declared.phase.TheConstants.{FIRST_MERGE}
use Rattle.matching.specs.ProgramLaws.{at}
use Rattle.matching.proofs.Partners.{ArePartners, are_partners, no-free-edge}
use Rattle.matching.proofs.laws.rounds_end_with_a_maximal_matching.Goals as goal

-- the last pulse is that after the last turn
last : (net : Net) → 13 + 3 * forest_count_of net * 2 ≡ FIRST_MERGE + 6 * forest_count_of net
last net = omega arith

pub returns-clause-partners : goal.returns-clause-partners
returns-clause-partners c = λ net ok v port is_vertex is.
    subst (λ (n : ℕ). ArePartners net (λ u. (at net ok n u).0.beside)) (last net) (are_partners net ok (3 * forest_count_of net) (omega arith))
    v port is_vertex is

pub returns-clause-maximal : goal.returns-clause-maximal
returns-clause-maximal c = λ net ok v w edge.
    subst (λ (n : ℕ). (at net ok n v).0.beside ≡ None → (at net ok n w).0.beside ≡ None → ⊥) (last net) (no-free-edge net ok v w edge.0 edge.1)
