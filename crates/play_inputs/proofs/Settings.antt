-- What holds of the network of a text as it is set.
use Rattle.std.proofs.Common.{◌≡◌, ◌-◌, ℕ, List, arith, length, refl, subst}
use Rattle.std.specs.Prelude.{slice_index}
use Rattle.std.proofs.lemmas.List.{length-map}
use Rattle.std.proofs.lemmas.List.FromFn.{length-map-range_with_len}
use Rattle.std.specs.Option.{unwrap_or}
use Rattle.dimacs_col.specs.Lines.{Line}
use Rattle.dimacs_col.specs.Reading.{Graph, id_in}
use Rattle.interference.proofs.Repeated.{network_repeated}
use Rattle.interference.specs.Net.{IsNetwork, Net, count_of}
use Rattle.interference.specs.Making.{IsFaultOf, network_of}
use Rattle.interference.specs.declared.fault.NetFault.{NetFault}
use Rattle.interference.specs.declared.fault.NetFault.TheVariants.{Degree, Memory, SameId}
use Rattle.plan_answers.specs.Answers.{LinesReadAs, identifiers_with, network_with}
use Rattle.play_inputs.specs.Roots.{exchanged_id, rooted}
use Rattle.play_inputs.specs.Settings.{IsRootAmong, OfSet, repeated_as, set_ids}
use Rattle.play_inputs.specs.declared.setting.Setting.{Setting}
use Rattle.play_inputs.specs.declared.setting.Setting.TheVariants.{AsRead, Repeating, Rooted}
use Rattle.play_inputs.proofs.Rooted.{network-rooted}

-- ---- from one fact of the network to another
pub set-more : (setting : Setting) (P Q : Net → Type 0) → ((net : Net) → P net → Q net) → (net : Net) → OfSet setting P net → OfSet setting Q net
set-more AsRead P Q more net is = more net is
set-more (Rooted root) P Q more net is = (is.0, more (rooted root net) is.1)
set-more (Repeating again) P Q more net is = more _ is

pub lines-more : (setting : Setting) (lines : List Line) (P Q : Net → Type 0) → ((net : Net) → P net → Q net)
    → LinesReadAs lines (OfSet setting P) → LinesReadAs lines (OfSet setting Q)
lines-more setting lines P Q more (graph, reads, is) = (graph, reads, set-more setting P Q more (network_with graph) is)

-- ---- the network that is made of a graph
pub graph-count : (graph : Graph) → count_of (network_with graph) ≡ graph.nodes
unfolding network_of
graph-count graph = length-map-range_with_len (λ v. unwrap_or (id_in graph.ids v) v) 1 graph.nodes

pub length-set : (setting : Setting) (ids : List ℕ) → length (set_ids setting ids) ≡ length ids
length-set AsRead ids = refl
length-set (Rooted root) ids = length-map ids (exchanged_id root.id (slice_index ids (root.vertex - 1)))
length-set (Repeating again) ids = refl

-- it is a network, or has a fault, however often a program repeats itself
pub still-network : (setting : Setting) (net : Net) → IsNetwork net → IsNetwork (repeated_as setting net)
still-network AsRead net ok = ok
still-network (Rooted root) net ok = ok
still-network (Repeating again) net ok = network_repeated again net ok

pub still-fault : (setting : Setting) (net : Net) (fault : NetFault) → IsFaultOf net fault → IsFaultOf (repeated_as setting net) fault
still-fault AsRead net fault is = is
still-fault (Rooted root) net fault is = is
still-fault (Repeating again) net (Degree v) is = is
still-fault (Repeating again) net (SameId v w) is = is
still-fault (Repeating again) net Memory is = is

-- the network of the identifiers as they are set, repeated as it is set
pub of-graph : (setting : Setting) (graph : Graph) (holds : Net → Type 0) → IsRootAmong setting graph.nodes
    → holds (repeated_as setting (network_of (set_ids setting (identifiers_with graph.ids graph.nodes)) graph.edges graph.bars))
    → OfSet setting holds (network_with graph)
of-graph AsRead graph holds among is = is
of-graph (Rooted root) graph holds among is =
    let ids = identifiers_with graph.ids graph.nodes in (
      (among.0, omega (arith, among.1, graph-count graph)),
      subst holds (network-rooted root ids graph.edges graph.bars) is,
    )
of-graph (Repeating again) graph holds among is = is
