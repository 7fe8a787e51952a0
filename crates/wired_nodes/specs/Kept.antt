-- What a node with its ends keeps, in whatever thread it is.
use Rattle.std.specs.Prelude.{◌≡◌, ℕ, List, map, Option, Some}
use Rattle.interference.specs.Net.{IsNetwork, IsVertex, degree_of}
use Rattle.node_api.specs.Program.{Program, last_pulse_on}
use Rattle.alpha_core.specs.View.{Node}
use Rattle.alpha_laws.specs.Kept.{NodeKept}
use Rattle.alpha_laws.specs.Stands.{TakesAreLegal}
use Rattle.link_queue.specs.Ends.{put_list, put_stamped, taken_list, taken_stamped}
use Rattle.entries.specs.Recorded.{entries_by, is_on}
use Rattle.entries.specs.declared.recorder.Recorder.{Recorder}
use Rattle.entries.specs.Rows.{bare_of}
use Rattle.wired_nodes.specs.declared.aside.Aside.{Aside}
use Rattle.wired_nodes.specs.declared.wired.WiredPut.{WiredPut}
use Rattle.wired_nodes.specs.declared.wired.WiredTake.{WiredTake}
use Rattle.wired_nodes.specs.declared.wiring.Wiring as wiring
use Rattle.wired_nodes.specs.Did.{Did}
use Rattle.wired_nodes.specs.HasStamps.{HasStamps, IsFullAside}
use Rattle.wired_nodes.specs.Node.{IsAside, by_port, links_in, links_out, reacted_to}
use Rattle.wired_nodes.specs.Written.{IsTranscript}

module _ {J S M E : Type 0} {j : wiring.Ghosts J} where
  pub record IsKept (program : Program S M E) (vertex degree : ℕ) (aside : Option (Aside M)) (last : ℕ)
      (node : Node S M) (puts : List (WiredPut J M j)) (takes : List (WiredTake J M j)) (recorder : Recorder M)
      (counter : ℕ) : Type 0 where
    -- It is a vertex of the network, with an end that puts and one that takes for each port, and writes down what it
    -- does if the run's nodes do.
    pub network : IsNetwork j.net
    pub is_vertex : IsVertex j.net vertex
    pub recorded : is_on recorder ≡ j.transcript
    pub ports : degree ≡ degree_of j.net vertex
    pub outs : map (λ e. (e.vertex, e.port)) puts ≡ links_out j.net vertex
    pub ins : map (λ e. (e.vertex, e.port)) takes ≡ links_in j.net vertex
    -- It keeps its links, with the lists that its ends put and took, but for the wire that it set aside.
    pub last_is : last ≡ last_pulse_on program j.net
    pub keeps : NodeKept program j.net vertex node (by_port (map (λ e. put_list e.end) puts))
        (by_port (reacted_to aside (map (λ e. taken_list e.end) takes)))
    pub legal : TakesAreLegal program j.net vertex (by_port (reacted_to aside (map (λ e. taken_list e.end) takes)))
    pub set_aside : (a : Aside M) → aside ≡ Some a →
        IsAside (last_pulse_on program j.net) node.view (map (λ e. taken_list e.end) takes) a
    -- With a transcript, its entries are all that it did, and those lists.
    pub writes : IsTranscript program j.net vertex (is_on recorder) node (by_port (map (λ e. put_list e.end) puts))
        (by_port (reacted_to aside (map (λ e. taken_list e.end) takes))) (bare_of (entries_by recorder))
    -- With a transcript, its entries have the stamps that the counter gives them.
    pub stamps : HasStamps j.net vertex (is_on recorder) counter (by_port (map (λ e. put_stamped e.end) puts))
        (by_port (map (λ e. taken_stamped e.end) takes)) (entries_by recorder)
    -- A wire that it set aside for its stamp came with that stamp, and the counter couldn't go past it.
    pub full : (a : Aside M) → aside ≡ Some a → IsFullAside counter (by_port (map (λ e. taken_stamped e.end) takes)) a
    -- Written down or not, there are entries of all that it did, with the stamps that the counter gives them.
    pub did : ∥ Did program j.net vertex counter node (by_port (map (λ e. put_list e.end) puts))
        (by_port (reacted_to aside (map (λ e. taken_list e.end) takes)))
        (by_port (map (λ e. put_stamped e.end) puts)) (by_port (map (λ e. taken_stamped e.end) takes)) ∥₁
