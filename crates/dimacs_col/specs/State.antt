-- What a reader knows after some good lines.
use Rattle.std.specs.Prelude.{true, ℕ, Option, Some, Result, Ok, Err, List, [], ◌∷◌, ◌++◌, ◌≡◌, ◌≤◌, min, IfSome}
use Rattle.std.specs.Option.{option_map}
use Rattle.std.specs.BTreeMap.{get}
use Rattle.std.specs.Ordering.{nat_cmp}
use Rattle.std.specs.Set.{is_member}
use Rattle.dimacs_col.specs.Lines.{Line, number_of}
use Rattle.dimacs_col.specs.Reading.{AllGood, nodes_of, edges_of, edge_count, ids_of, id_in, bars_of, verdict}
use Rattle.dimacs_col.specs.Bag.{SameMembers}
use Rattle.dimacs_col.specs.BarSets.{IsCounted}
use Rattle.graph_limits.specs.Pairs.{same_pair, FitsIn, IsBarOf, IsVertexOf}
use Rattle.graph_limits.specs.declared.limits.TheConstants.{MAX_NODES, MAX_EDGES}
use Rattle.dimacs_col.specs.declared.reader.Reader.{Reader}
use Rattle.dimacs_col.specs.declared.fault.ColFault.{ColFault}
use Rattle.dimacs_col.specs.declared.fault.ColFault.TheVariants.{NoProblem, Memory}

-- a number as a reader keeps it: one above the greatest `u32` becomes the greatest `u32`
abbrev pub kept : ℕ → ℕ
kept n = min n 4294967295

abbrev pub kept_number : List ℕ → Option ℕ
kept_number field = option_map kept (number_of field)

-- the lines are good, and the reader has what they say
pub record Knows (before : List Line) (reader : Reader) : Type 0 where
  pub good : AllGood before
  pub nodes_are : reader.nodes ≡ nodes_of before
  pub nodes_fit : IfSome reader.nodes (λ nodes. nodes ≤ MAX_NODES)
  pub ids_are : (v : ℕ) → get nat_cmp reader.ids v ≡ id_in (ids_of before) v
  pub ids_fit : (v id : ℕ) → id_in (ids_of before) v ≡ Some id → IsVertexOf reader.nodes v
  pub edges_are : SameMembers reader.edges (edges_of before)
  pub edges_few : edge_count before ≤ MAX_EDGES
  pub bars_are : SameMembers reader.bars.bars.keys (bars_of before)
  pub bars_fit : (bar : ℕ × ℕ) → is_member same_pair (bars_of before) bar ≡ true → IsBarOf reader.nodes bar
  pub bars_counted : IsCounted reader.bars
  pub edges_fit : (pair : ℕ × ℕ) → is_member same_pair (edges_of before) pair ≡ true → FitsIn reader.nodes pair

-- the fault is the verdict, or memory ran out
abbrev pub IsVerdict : ColFault → Option ColFault → Type 0
IsVerdict Memory told = Unit {0}
IsVerdict NoProblem told = ⊥
IsVerdict fault told = told ≡ Some fault

-- after a line the reader knows that line too, or its verdict is the error
abbrev pub Judged : List Line → Line → Reader → Result (Unit {0}) ColFault → Type 0
Judged before line reader (Ok _) = Knows (before ++ line ∷ []) reader
Judged before line reader (Err fault) = IsVerdict fault (verdict before line)
