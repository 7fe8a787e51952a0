-- A program that is followed by a sequel: up to a pulse, the cut, the nodes run the first program; from then on each
-- keeps its state of it, and goes on with what it has beside it.
use Rattle.std.specs.Prelude.{◌≡◌, ℕ, suc, ◌-◌, ◌≤◌, ◌<◌, if◌then◌else◌, nat_le, List, length}
use Rattle.std.specs.Prelude.{Option, Some, None, Result, Ok, Err, IsOk, IfOk}
use Rattle.interference.specs.Net.{Net, IsNetwork, IsVertex, degree_of}
use Rattle.node_api.specs.Boxes.{Mail, nothing, unread}
use Rattle.node_api.specs.Program.{Own, Program, Sizes, last_pulse_on, sizes_of}
use Rattle.node_api.specs.Run.{inbox_from, node_at, outbox_at, state_at}
use Rattle.node_api.specs.declared.program.Refused.{Refused}
use Rattle.followed.specs.declared.rules.TheConstants.{TOO_EARLY}
use Rattle.followed.specs.declared.said.Said.{Said}
use Rattle.followed.specs.Said.{firsts, misplaced, told_by}

-- a state of the first program, and what a node has beside it
pub record Both (S X : Type 0) : Type 0 where
  pub first : S
  pub beside : X

abbrev pub both_of : {S X : Type 0} → S → X → Both S X
both_of s x = record { first = s; beside = x }

-- The ports of a node are its degree, and the boxes of its own in which the first program hears and sends are empty.
pub record HasFreeBoxes {M : Type 0} (ports degree : ℕ) (inbox : Mail M) (out : List (Option M)) : Type 0 where
  pub ports_are : ports ≡ degree
  pub nothing_came : inbox ≡ unread (nothing degree)
  pub nothing_sent : out ≡ nothing degree

-- The part that follows. S is a state of the first program and A its payloads; X is what a node has beside it, and B
-- are the payloads of its own. Its pulses count from 0.
pub record Sequel (S X A B : Type 0) : Type 0 where
  -- the last pulse of the first program that is made, as a node knows it
  pub until : X → ℕ
  -- the last pulse of both, by the sizes and by how many times more the sequel repeats itself
  pub last : Sizes → ℕ → ℕ
  -- what a node has beside at first: it depends on its vertex's own data alone
  pub begin : Own → X
  -- what a node has beside next and what it sends, or a refusal
  pub next : S → X → ℕ → List (Option (Said A B)) → Result (X × List (Option (Said A B))) Refused

abbrev pub told_next : {S A B : Type 0} → Result (S × List (Option A)) Refused
    → Result (S × List (Option (Said A B))) Refused
told_next (Ok node) = Ok (told_by node)
told_next (Err refused) = Err refused

-- a payload of the sequel that comes while the first program runs is refused
abbrev pub unless_early : {Y : Type 0} → Option ℕ → Result Y Refused → Result Y Refused
unless_early None r = r
unless_early (Some port) r = Err (record { rule = TOO_EARLY; port = Some port })

-- a pulse of the first program, by an inbox of both
abbrev pub heard_next : {S A B : Type 0} → Program S A Refused → S → ℕ → List (Option (Said A B))
    → Result (S × List (Option (Said A B))) Refused
heard_next first s p inbox = unless_early (misplaced inbox) (told_next (first.next s p (firsts inbox)))

abbrev pub through : {S X M : Type 0} → X → Result (S × List (Option M)) Refused
    → Result (Both S X × List (Option M)) Refused
through x (Ok node) = Ok (record { first = node.0; beside = x }, node.1)
through x (Err refused) = Err refused

abbrev pub beside_of : {S X M : Type 0} → S → X × List (Option M) → Both S X × List (Option M)
beside_of s next = (record { first = s; beside = next.0 }, next.1)

abbrev pub keeping : {S X M : Type 0} → S → Result (X × List (Option M)) Refused
    → Result (Both S X × List (Option M)) Refused
keeping s (Ok next) = Ok (beside_of s next)
keeping s (Err refused) = Err refused

abbrev pub followed_next : {S X A B : Type 0} → Program S A Refused → Sequel S X A B → Both S X → ℕ
    → List (Option (Said A B)) → Result (Both S X × List (Option (Said A B))) Refused
followed_next first sequel s p inbox =
    if nat_le p (sequel.until s.beside) then through s.beside (heard_next first s.first p inbox)
    else keeping s.first (sequel.next s.first s.beside (p - suc (sequel.until s.beside)) inbox)

abbrev pub with_beside : {S X M : Type 0} → X → S × List (Option M) → Both S X × List (Option M)
with_beside x node = (record { first = node.0; beside = x }, node.1)

abbrev pub followed : {S X A B : Type 0} → Program S A Refused → Sequel S X A B → Program (Both S X) (Said A B) Refused
followed first sequel = record {
  last = sequel.last;
  ports = λ s. first.ports s.first;
  made = λ own. record { first = first.made own; beside = sequel.begin own };
  greet = λ s. with_beside s.beside (told_by (first.greet s.first));
  next = followed_next first sequel;
}

-- The cut is the last pulse of the first program that is made: every node knows it from the beginning, and keeps it.
pub record IsCut {S X A B : Type 0} (first : Program S A Refused) (sequel : Sequel S X A B) : Type 0 where
  pub cut : Sizes → ℕ
  pub within : (sizes : Sizes) (again : ℕ) → cut sizes ≤ first.last sizes again
  pub begins : (own : Own) → sequel.until (sequel.begin own) ≡ cut own.sizes
  pub keeps : (s : S) (x : X) (q : ℕ) (inbox : List (Option (Said A B)))
      → IfOk (sequel.next s x q inbox) (λ next. sequel.until next.0 ≡ sequel.until x)

-- What a sequel has to keep: there is a cut, an outbox has a slot for each port, nothing is refused on the synchronous
-- run, and nothing is sent at the last pulse.
pub record IsSequel {S X A B : Type 0} (first : Program S A Refused) (sequel : Sequel S X A B) : Type 0 where
  pub cut : IsCut first sequel
  pub shape : (s : S) (x : X) (q : ℕ) (inbox : List (Option (Said A B))) → length inbox ≡ first.ports s
      → IfOk (sequel.next s x q inbox) (λ next. length next.1 ≡ first.ports s)
  pub accepts : (net : Net) → IsNetwork net → (p v : ℕ) → IsVertex net v → cut.cut (sizes_of net) ≤ p
      → p < last_pulse_on (followed first sequel) net
      → IsOk (sequel.next (state_at first net (cut.cut (sizes_of net)) v)
      (state_at (followed first sequel) net p v).beside (p - cut.cut (sizes_of net))
      (inbox_from net (node_at (followed first sequel) net p) v))
  pub silent : (net : Net) → IsNetwork net → (v : ℕ) → IsVertex net v
      → outbox_at (followed first sequel) net (last_pulse_on (followed first sequel) net) v ≡ nothing (degree_of net v)
