-- What one node is whenever it keeps its links and took legal lists: in a run that goes on, that ended early, or that
-- never ends. What the other nodes have put, taken or set aside isn't asked, and the lists of the two ends of a link
-- needn't have met. The last words of this file are of two neighbours that both stand.
use Rattle.std.specs.Prelude.{◌≡◌, ◌⊎◌, ℕ, suc, ◌<◌, ◌≤◌, IsTrue, IsOk, IsSome, List, [], ◌∷◌, ◌++◌, Contains}
use Rattle.interference.specs.Net.{Net, IsVertex, degree_of, neighbour_of, back_port_of}
use Rattle.node_api.specs.Program.{Program, last_pulse_on}
use Rattle.node_api.specs.Run.{inbox_at}
use Rattle.wires.specs.declared.wire.Wire.{Wire}
use Rattle.wires.specs.declared.wire.Wire.TheVariants.{Safe, Close}
use Rattle.wires.specs.Wires.{acks_of, data_of}
use Rattle.wires.specs.Streams.{Begins}
use Rattle.alpha_core.specs.View.{Node, can_pulse, inbox_of}
use Rattle.alpha_core.specs.Alpha.{pulse}
use Rattle.link_rule.specs.Sent.{IsLegal, sends}
use Rattle.alpha_laws.specs.Fits.{NodeFits}
use Rattle.alpha_laws.specs.Kept.{NodeKept}
use Rattle.alpha_laws.specs.Simulates.{IsCompleteOn, emitted_at, heard_at}

-- what was taken of each link to v is legal there
abbrev pub TakesAreLegal : {S M E : Type 0} → Program S M E → Net → ℕ → (ℕ → List (Wire M)) → Type 0
TakesAreLegal program net v taken =
    (i : ℕ) → i < degree_of net v → IsLegal program net (neighbour_of net v i) v (taken i)

-- Node v stands where the synchronous run of its program has it. `sent` and `taken` are the lists that it has put on
-- its links and taken from them, by port. These are the words of `Simulates`, of one node.
pub record Stands {S M E : Type 0} (program : Program S M E) (net : Net) (v : ℕ) (node : Node S M)
    (sent taken : ℕ → List (Wire M)) : Type 0 where
  -- It fits its links; so at pulse p it is in the state of the synchronous run at p. What it took of a link is legal
  -- there: without acknowledgements it begins the one stream that the synchronous run fixes for this link, so it has
  -- each message of the stream at most once and in the stream's order. That the neighbour has put it isn't said.
  pub fits : NodeFits program net v node sent taken
  -- It isn't past the last pulse.
  pub within_last : node.view.pulse ≤ last_pulse_on program net
  -- Of each pulse below its own it took exactly that round's synchronous inbox,
  pub exact_inboxes : (q : ℕ) → q < node.view.pulse → heard_at net taken v q ≡ inbox_at program net (suc q) v
  -- and of its own, if it can make the next one, which its program doesn't refuse.
  pub exact_next_inbox : IsTrue (can_pulse (last_pulse_on program net) node.view)
      → inbox_of node.view ≡ inbox_at program net (suc node.view.pulse) v
  pub no_pulse_refused : IsTrue (can_pulse (last_pulse_on program net) node.view)
      → IsOk (pulse program.next (last_pulse_on program net) node)
  -- What it put on a link is legal there.
  pub put_legal : (i : ℕ) → i < degree_of net v → IsLegal program net v (neighbour_of net v i) (sent i)
  -- All before the closing mark, and none after it, put or taken.
  pub all_before_close : (i : ℕ) → i < degree_of net v → Contains (taken i) Close
      → IsCompleteOn program net (neighbour_of net v i) v (taken i)
  pub none_after_close : (i : ℕ) → i < degree_of net v → (before after : List (Wire M))
      → sent i ≡ before ++ (Close ∷ after) → after ≡ []
  pub none_taken_after_close : (i : ℕ) → i < degree_of net v → (before after : List (Wire M))
      → taken i ≡ before ++ (Close ∷ after) → after ≡ []
  -- Safe means safe: if it emitted the safe of a pulse on any port, each payload that it sent at that pulse was
  -- acknowledged.
  pub safe_means_acknowledged : (i j q : ℕ) → i < degree_of net v → j < degree_of net v
      → Contains (emitted_at node sent i) (Safe q) → IsSome (sends program net v (neighbour_of net v j) q)
      → Contains (acks_of (taken j)) q

-- A node that keeps its links, and took legal lists, stands there.
abbrev pub KeptStand : {S M E : Type 0} → Program S M E → Net → Type 0
KeptStand {S} {M} program net =
    (v : ℕ) (node : Node S M) (sent taken : ℕ → List (Wire M)) → IsVertex net v → NodeKept program net v node sent taken
    → TakesAreLegal program net v taken → Stands program net v node sent taken

-- one of two lists begins the other
abbrev pub OneBegins : {A : Type 0} → List A → List A → Type 0
OneBegins xs ys = Begins xs ys ⊎ Begins ys xs

-- What was put on a link and what was taken from it, seen at two moments: without acknowledgements one list begins the
-- other, and so it is of the acknowledgements.
pub record MomentsAgree {M : Type 0} (put taken : List (Wire M)) : Type 0 where
  pub wires : OneBegins (data_of put) (data_of taken)
  pub acks : OneBegins (acks_of put) (acks_of taken)

-- If v stands at one moment and its neighbour w at any other, what v put on the link to w agrees with what w took from
-- it. The two needn't be of one run: both lists begin the one stream that the synchronous run fixes.
abbrev pub StandingNodesAgree : {S M E : Type 0} → Program S M E → Net → Type 0
StandingNodesAgree {S} {M} program net =
    (v i : ℕ) (node other : Node S M) (sent taken sent' taken' : ℕ → List (Wire M))
    → IsVertex net v → i < degree_of net v
    → Stands program net v node sent taken → Stands program net (neighbour_of net v i) other sent' taken'
    → MomentsAgree (sent i) (taken' (back_port_of net v i))
