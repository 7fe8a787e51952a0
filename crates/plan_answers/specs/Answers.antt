-- The answers to the bytes of a text.
use Rattle.std.specs.Prelude.{◌≡◌, ℕ, List, map, unwrap_or}
use Rattle.std.specs.List.{range_with_len}
use Rattle.dimacs_col.specs.Lines.{Line, lines_of}
use Rattle.dimacs_col.specs.Reading.{Graph, IsFault, IsGraph, id_in}
use Rattle.interference.specs.Net.{Net, IsNetwork}
use Rattle.interference.specs.Making.{IsFaultOf, network_of}
use Rattle.plan_answers.specs.Plans.{IsChannelPlan}
use Rattle.plan_answers.specs.Texts.{colours_text, forests_text}
use Rattle.plan_answers.specs.declared.fault.PlanFault.{PlanFault}
use Rattle.plan_answers.specs.declared.fault.PlanFault.TheVariants as plan

-- the identifier of each vertex: the one that it is given, or its own number
abbrev pub identifiers_with : List (ℕ × ℕ) → ℕ → List ℕ
identifiers_with ids nodes = map (λ v. unwrap_or (id_in ids v) v) (range_with_len 1 nodes)

-- the network of a graph
abbrev pub network_with : Graph → Net
network_with graph = network_of (identifiers_with graph.ids graph.nodes) graph.edges graph.bars

-- the lines are those of a graph, of whose network something holds
abbrev pub LinesReadAs : List Line → (Net → Type 0) → Type 0
LinesReadAs lines holds = (graph : Graph) × IsGraph lines graph × holds (network_with graph)

-- the same of the lines of a text
abbrev pub ReadsAs : List ℕ → (Net → Type 0) → Type 0
ReadsAs text holds = LinesReadAs (lines_of text) holds

-- the fault of a text: that of its reading, or else that of the network which was read
abbrev pub IsFaultOfText : List ℕ → PlanFault → Type 0
IsFaultOfText text (plan.Col fault) = IsFault (lines_of text) fault
IsFaultOfText text (plan.Net fault) = ReadsAs text (λ net. IsFaultOf net fault)
IsFaultOfText text plan.Memory = Unit {0}
IsFaultOfText text _ = ⊥

-- the answer is the forests text of the network that the input describes
abbrev pub IsForestsAnswer : List ℕ → List ℕ → Type 0
IsForestsAnswer input answer = ReadsAs input (λ net. IsNetwork net × (answer ≡ forests_text net))

-- the answer is the plan of the colours of the network that the input describes, and a channel plan of it
abbrev pub IsPlainAnswer : List ℕ → List ℕ → Type 0
IsPlainAnswer input answer =
    ReadsAs input (λ net. IsNetwork net × (answer ≡ colours_text net) × IsChannelPlan net answer)
