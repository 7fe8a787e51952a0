use Rattle.std.proofs.Common.{ℕ, List, Option}
use Rattle.std.specs.Ordering.{nat_cmp}
use Rattle.std.specs.BTreeMap.{get}
use Rattle.interference.proofs.SameIds.{IsFirstWith, IsFirstPair}
use Rattle.interference.proofs.same_ids.first_same_id.Given as goal

pub record Firsts (ids : List ℕ) (firsts : ℕ → Option ℕ) (found : Option (ℕ × ℕ)) (n : ℕ) : Type 0 where
  pub first : (q : ℕ) → IsFirstWith ids n q (firsts q)
  pub pair : IsFirstPair ids n found

abbrev pub invariant-loop-i : goal.invariant-loop-i
invariant-loop-i l = Firsts l.ids (get nat_cmp l.firsts) l.found l.i
