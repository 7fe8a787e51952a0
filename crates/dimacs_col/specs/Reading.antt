-- The reading of a text: the verdict of a line after the lines before it, the first fault, and the graph.
use Rattle.std.specs.Prelude.{◌≡◌, ◌↔◌, ℕ, ◌+◌, min, max, nat_lt, ◌==◌, Bool, true, not, ◌||◌, ◌&&◌, if◌then◌else◌}
use Rattle.std.specs.Prelude.{Option, Some, None, is_some, unwrap_or, List, [], ◌∷◌, ◌++◌, length, filter, Contains}
use Rattle.std.specs.List.Sorted.{IsStrictlySortedBy}
use Rattle.std.specs.Map.{keys_of, lookup}
use Rattle.std.specs.Ordering.{nat_cmp}
use Rattle.std.specs.Set.{distinct_count}
use Rattle.dimacs_col.specs.Lines.{Line, field_at, is_channel, is_identifier, no_number_at, value_at}
use Rattle.dimacs_col.specs.Kinds.{kind_of, is_problem_kind, is_edge_kind, is_identifier_kind, is_bar_kind, is_format}
use Rattle.graph_limits.specs.Pairs.{pair_cmp, same_pair, is_bar_at}
use Rattle.graph_limits.specs.declared.limits.TheConstants.{MAX_NODES, MAX_EDGES, MAX_BARS}
use Rattle.dimacs_col.specs.declared.kind.Kind.{Kind}
use Rattle.dimacs_col.specs.declared.kind.Kind.TheVariants.{Skipped, Problem, Edge, Identifier, Bar, Unknown}
use Rattle.dimacs_col.specs.declared.fault.ColFault.{ColFault}
use Rattle.dimacs_col.specs.declared.fault.ColFault.TheVariants.{NoProblem, SecondProblem, EdgeBeforeProblem}
use Rattle.dimacs_col.specs.declared.fault.ColFault.TheVariants.{BadField, VertexRange, SelfLoop, TooLarge}
use Rattle.dimacs_col.specs.declared.fault.ColFault.TheVariants.{UnknownLine, EarlyLine, NumberRange, IdTwice}
use Rattle.dimacs_col.specs.declared.fault.ColFault.TheVariants.{ChannelRange, TooManyBars, Memory}
use Rattle.dimacs_col.specs.declared.reader.ColFile.{ColFile}

-- NODES of the first problem line
unfoldable pub nodes_of : List Line → Option ℕ
nodes_of [] = None
nodes_of (line ∷ lines) = if is_problem_kind (kind_of line) then Some (value_at line 2) else nodes_of lines

-- the pair that an edge line names, the smaller vertex first
abbrev pub pair_of : Line → ℕ × ℕ
pair_of line = (min (value_at line 1) (value_at line 2), max (value_at line 1) (value_at line 2))

-- the pairs of the edge lines
unfoldable pub edges_of : List Line → List (ℕ × ℕ)
edges_of [] = []
edges_of (line ∷ lines) = if is_edge_kind (kind_of line) then pair_of line ∷ edges_of lines else edges_of lines

-- how many different edges the lines name
unfoldable pub edge_count : List Line → ℕ
edge_count lines = distinct_count same_pair (edges_of lines)

-- the vertices and identifiers that the identifier lines name
unfoldable pub ids_of : List Line → List (ℕ × ℕ)
ids_of [] = []
ids_of (line ∷ lines) =
    if is_identifier_kind (kind_of line) then (value_at line 1, value_at line 2) ∷ ids_of lines else ids_of lines

-- the identifier that a list of vertices and identifiers gives a vertex, if it gives one
abbrev pub id_in : List (ℕ × ℕ) → ℕ → Option ℕ
id_in ids v = lookup (λ w. v == w) ids

abbrev pub has_id : List Line → ℕ → Bool
has_id before v = is_some (id_in (ids_of before) v)

-- the bar that a bar line names: a vertex and a channel
abbrev pub bar_of : Line → ℕ × ℕ
bar_of line = (value_at line 1, value_at line 2)

-- the bars of the bar lines
unfoldable pub bars_of : List Line → List (ℕ × ℕ)
bars_of [] = []
bars_of (line ∷ lines) = if is_bar_kind (kind_of line) then bar_of line ∷ bars_of lines else bars_of lines

-- how many different bars of a vertex the lines name
unfoldable pub bar_count : List Line → ℕ → ℕ
bar_count lines v = distinct_count same_pair (filter (is_bar_at v) (bars_of lines))

abbrev pub has_problem : List Line → Bool
has_problem before = is_some (nodes_of before)

-- a vertex is from 1 to NODES
abbrev pub is_vertex : List Line → ℕ → Bool
is_vertex before v = nat_lt 0 v && not (nat_lt (unwrap_or (nodes_of before) 0) v)

-- the number of the line after some lines, counted from 1
abbrev pub number_after : List Line → ℕ
number_after before = length before + 1

-- what can be wrong with a line of a kind, in the order in which it is tested
abbrev pub faults_of : Kind → List Line → Line → List (Bool × ColFault)
faults_of Skipped before line = []
faults_of Problem before line =
    (has_problem before, SecondProblem (number_after before))
    ∷ (not (is_format (field_at line 1)) || no_number_at line 2 || no_number_at line 3, BadField (number_after before))
    ∷ (nat_lt MAX_NODES (value_at line 2), TooLarge (number_after before))
    ∷ []
faults_of Edge before line =
    (not (has_problem before), EdgeBeforeProblem (number_after before))
    ∷ (no_number_at line 1 || no_number_at line 2, BadField (number_after before))
    ∷ (
      not (is_vertex before (value_at line 1)) || not (is_vertex before (value_at line 2)),
      VertexRange (number_after before),
    )
    ∷ (value_at line 1 == value_at line 2, SelfLoop (number_after before))
    ∷ (nat_lt MAX_EDGES (edge_count (before ++ line ∷ [])), TooLarge (number_after before))
    ∷ []
faults_of Identifier before line =
    (not (has_problem before), EarlyLine (number_after before))
    ∷ (no_number_at line 1 || no_number_at line 2, BadField (number_after before))
    ∷ (not (is_vertex before (value_at line 1)), VertexRange (number_after before))
    ∷ (not (is_identifier (value_at line 2)), NumberRange (number_after before))
    ∷ (has_id before (value_at line 1), IdTwice (number_after before))
    ∷ []
faults_of Bar before line =
    (not (has_problem before), EarlyLine (number_after before))
    ∷ (no_number_at line 1 || no_number_at line 2, BadField (number_after before))
    ∷ (not (is_vertex before (value_at line 1)), VertexRange (number_after before))
    ∷ (not (is_channel (value_at line 2)), ChannelRange (number_after before))
    ∷ (nat_lt MAX_BARS (bar_count (before ++ line ∷ []) (value_at line 1)), TooManyBars (number_after before))
    ∷ []
faults_of Unknown before line = (true, UnknownLine (number_after before)) ∷ []

-- the first that holds
abbrev pub first_of : List (Bool × ColFault) → Option ColFault
first_of [] = None
first_of (row ∷ rows) = if row.0 then Some row.1 else first_of rows

-- the verdict of a line after the lines before it: its first fault, or none if it is good
unfoldable pub verdict : List Line → Line → Option ColFault
verdict before line = first_of (faults_of (kind_of line) before line)

-- every line is good after those before it
abbrev pub AllGood : List Line → Type 0
AllGood lines = (before : List Line) (line : Line) (after : List Line) → lines ≡ before ++ line ∷ after →
    verdict before line ≡ None

-- the fault is that of a line, and the lines before it are good
pub record IsFirstFault (lines : List Line) (fault : ColFault) : Type 0 where
  pub before : List Line
  pub line : Line
  pub after : List Line
  pub place : lines ≡ before ++ line ∷ after
  pub good : AllGood before
  pub told : verdict before line ≡ Some fault

-- the fault of the lines; `Memory` says nothing of them
abbrev pub IsFault : List Line → ColFault → Type 0
IsFault lines Memory = Unit {0}
IsFault lines NoProblem = AllGood lines × (nodes_of lines ≡ None)
IsFault lines fault = IsFirstFault lines fault

-- A graph: how many vertices it has, identifiers of some of them, its edges, and the channels barred at its vertices.
pub record Graph : Type 0 where
  pub nodes : ℕ
  pub ids : List (ℕ × ℕ)
  pub edges : List (ℕ × ℕ)
  pub bars : List (ℕ × ℕ)

abbrev pub graph_of : ColFile → Graph
graph_of file =
    record { nodes = file.nodes; ids = file.ids.items; edges = file.edges.items; bars = file.bars.items }

-- the graph that the lines describe: its vertices, the identifiers that lines give, by ascending vertex, and the sets
-- of its edges and of its bars as ascending lists
pub record IsGraph (lines : List Line) (graph : Graph) : Type 0 where
  pub good : AllGood lines
  pub nodes_are : nodes_of lines ≡ Some graph.nodes
  pub ids_ascend : IsStrictlySortedBy nat_cmp (keys_of graph.ids)
  pub ids_are : (v : ℕ) → id_in graph.ids v ≡ id_in (ids_of lines) v
  pub edges_ascend : IsStrictlySortedBy pair_cmp graph.edges
  pub edges_are : (pair : ℕ × ℕ) → Contains graph.edges pair ↔ Contains (edges_of lines) pair
  pub bars_ascend : IsStrictlySortedBy pair_cmp graph.bars
  pub bars_are : (bar : ℕ × ℕ) → Contains graph.bars bar ↔ Contains (bars_of lines) bar
