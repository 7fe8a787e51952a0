-- Of each direction at most two emitted wires are untaken, so a link on which a wire can be put holds one at most.
use Rattle.std.proofs.Common.{◌≡◌, ℕ, ◌≤◌, List, [], ◌∷◌, Ok, length, ap, arith}
use Rattle.std.proofs.lemmas.List.{length-append}
use Rattle.interference.specs.Net.{Net, IsNetwork}
use Rattle.node_api.specs.Program.{Program}
use Rattle.alpha_laws.proofs.Across.{over}
use Rattle.alpha_laws.proofs.Claims.{simulates}
use Rattle.alpha_laws.proofs.Runs.{Runs}
use Rattle.alpha_core.specs.View.{port_at}
use Rattle.event_rule.specs.declared.event.Event.{Event}
use Rattle.event_rule.specs.declared.event.Event.TheVariants.{Pulse, Put, Take}
use Rattle.event_rule.specs.State.{State, start, node_of, link_at, sent_of}
use Rattle.event_rule.specs.Step.{run}
use Rattle.event_rule.specs.Events.{IsRunFrom, Possible, Steps}
use Rattle.event_rule.proofs.Exactly.{runs-exactly}
use Rattle.event_rule.proofs.KeptRuns.{start_good}
use Rattle.event_rule.proofs.NetKept.{NetKept, all_kept}
use Rattle.event_rule.specs.Endings.{HasRoom, IsRunWithin}
use Rattle.event_rule.proofs.Maximal.{next_kept}

module _ {S M E : Type 0} {program : Program S M E} {net : Net} (ok : IsNetwork net) (runs : Runs program net) (capacity : ℕ) (some : 2 ≤ capacity) where
  has_room : (state : State S M) → NetKept program net state → (event : Event) → Possible program net state event → HasRoom capacity state event
  has_room state kept (Pulse v) can = tt
  has_room state kept (Take v i) can = tt
  has_room state kept (Put v i) ((vertex, lt), waiting) =
      let all = all_kept ok kept in
      let link = link_at state.links v i in
      let out = (port_at (node_of program net state v).view i).out in
      let few = (simulates ok runs all).at_most_two_untaken v i vertex lt in
      let here = ap (λ ws. length ws) (over net ok (λ u k. (link_at state.links u k).taken) v i vertex lt) in
      omega (arith, few, here, waiting, some, length-append (sent_of link) out, length-append link.taken link.held)

  possible : (state next : State S M) (event : Event) → Steps program net state event next → Possible program net state event
  possible state next (Pulse v) s = s.possible
  possible state next (Put v i) s = s.possible
  possible state next (Take v i) s = s.possible

  within : (events : List Event) (state last : State S M) → NetKept program net state → IsRunFrom program net state events last
      → IsRunWithin capacity program net state events last
  within [] state last kept same = same
  within (event ∷ events) state last kept (next, s, rest) =
      (has_room state kept event (possible state next event s), (next, s, within events next last (next_kept ok runs state next event kept s) rest))

  pub have_room : (events : List Event) (last : State S M) → run program net events ≡ Ok last → IsRunWithin capacity program net (start program net) events last
  have_room events last is = within events (start program net) last (start_good ok runs) (((runs-exactly ok runs events).accepts last).0 is)
