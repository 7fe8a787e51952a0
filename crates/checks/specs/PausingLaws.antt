-- Laws of `Pausing.antt`, which an `impl` cites.
use Rattle.std.specs.Prelude.{◌≡◌, ℕ, ◌<◌, ◌^◌, List, length, Option, Some, None, codes, All}
use Rattle.std.specs.Char.{IsAsciiAlphabetic}
use Rattle.std.proofs.Common.{◌∙◌, ap, arith, refl, rules}
use Rattle.std.proofs.lemmas.Bool.Decides.{nat_tests}
use Rattle.std.proofs.lemmas.List.{length-replicate}
use Rattle.interference.specs.Net.{IsNetwork, IsVertex, Net, degree_of}
use Rattle.node_api.specs.Boxes.{nothing}
use Rattle.node_api.specs.Run.{node_at, state_at}
use Rattle.node_api.proofs.Runs.{node_at-ports}
use Rattle.sync_rounds.specs.declared.greatest.Best.{Best}
use Rattle.sync_rounds.specs.Greatest.{Known}
use Rattle.sync_rounds.specs.Spread.{spread}
use Rattle.sync_rounds.specs.SpreadLaws.{spread_laws}
use Rattle.sync_rounds.specs.Words.{best_from}
use Rattle.followed.specs.declared.said.Said.{Said}
use Rattle.followed.specs.Followed.{Both, IsCut, IsSequel, followed}
use Rattle.followed.specs.RunLaws.{at-more}
use Rattle.checks.specs.Pausing.{paused_from, pauses}

abbrev pauses_cut : {B : Type 0} → IsCut (spread 3) (pauses {B = B})
pauses_cut = record {
  cut = λ sizes. 2;
  within = λ sizes again. omega arith;
  begins = λ own. refl;
  keeps = λ s x q inbox. refl;
}

-- nothing is sent at pulse 4
silent_last : (B : Type 0) (net : Net) → IsNetwork net → (v : ℕ) → IsVertex net v
    → (node_at (followed (spread 3) (pauses {B = B})) net 4 v).1 ≡ nothing (degree_of net v)
silent_last B net ok v is_vertex =
    let s : Known = state_at (spread 3) net 2 v in
    ap (λ (next : Both Known ℕ × List (Option (Said Best B))). next.1)
    (at-more (spread 3) (pauses {B = B}) pauses_cut net ok 3 v is_vertex (omega arith) (1, nothing s.degree) refl)
    ∙ ap (λ (n : ℕ). nothing n) (node_at-ports (spread 3) net (spread_laws 3).keeps_ports 2 v).0

pub pauses_laws : {B : Type 0} → IsSequel (spread 3) (pauses {B = B})
pauses_laws {B = B} = record {
  cut = pauses_cut;
  shape = λ s x q inbox is. length-replicate s.degree None;
  accepts = λ net ok p v is_vertex late below. refl;
  silent = λ net ok v is_vertex. silent_last B net ok v is_vertex;
}

-- the word is of letters
pub paused_letters : (0 < length (codes "paused")) × All IsAsciiAlphabetic (codes "paused")
paused_letters = (omega arith, grind (arith, rules))

-- the word and the number say it
pub paused_reads_back : {B : Type 0} (made : ℕ → B) (number : ℕ) → number < 2 ^ 32
    → paused_from made (codes "paused") number ≡ Some (made number)
paused_reads_back made number h = grind (arith, nat_tests)

-- and no payload of the first program
pub paused_apart : (number : ℕ) → best_from (codes "paused") number ≡ None
paused_apart number = grind (arith, nat_tests)
