-- A pulse at which nothing came to anybody and all nodes rest: the nodes and the inboxes of the next pulse are those of this one.
use Rattle.std.proofs.Common.{◌≡◌, ℕ, Bool, suc, ◌+◌, ◌-◌, ◌<◌, List, [], length, get_or, refl, ap, sym, ◌∙◌, arith}
use Rattle.std.specs.Prelude.{None, Option, slice_index_or}
use Rattle.std.proofs.lemmas.List.{ext_get_or, length-replicate}
use Rattle.interference.specs.Net.{Net, IsNetwork, IsVertex, back_port_of, count_of, degree_of, neighbour_of}
use Rattle.node_api.specs.Boxes.{Mail, at_port, nothing, unread}
use Rattle.node_api.specs.Program.{Program}
use Rattle.node_api.specs.Run.{node_at, state_at, outbox_at, inbox_at}
use Rattle.node_api.proofs.Runs.{node_at-ports}
use Rattle.node_api.proofs.Slots.{at_port-nothing}
use Rattle.node_api.specs.Laws.{KeepsPorts}
use Rattle.sync_rounds.specs.Lists.{Lists, empty_inbox}
use Rattle.sync_rounds.specs.Rests.{AreLoud, AreResting, sent_by}
use Rattle.sync_rounds.proofs.Deliveries.{delivered_all, delivered_over, delivered_start}
use Rattle.sync_rounds.proofs.Resting.{rested, rests_on, sent_by-at, sent_by-lists}
use Rattle.sync_rounds.proofs.Steps.{Lists-received, sent-to}
use Rattle.sync_rounds.proofs.Received.{at_vertex}

module _ {S M E : Type 0} (program : Program S M E) (laws : KeepsPorts program) (net : Net) (ok : IsNetwork net) (p : ℕ) (untils : List ℕ)
    (now : List (Mail M)) (rests : AreResting program net p untils)
    (came : Lists (count_of net) (λ v. unread (inbox_at program net (suc p) v)) now) (empty : Lists (count_of net) (empty_inbox net) now)
    (early : (k d : ℕ) → k < count_of net → suc p < slice_index_or untils k d) where
  -- nothing came to this entry
  nothing-to : (k : ℕ) → k < count_of net → inbox_at program net (suc p) (k + 1) ≡ nothing (degree_of net (k + 1))
  nothing-to k below =
      let d : Mail M = empty_inbox net (k + 1) in
      ap (λ (mail : Mail M). mail.slots) (sym (came.entry k d below) ∙ empty.entry k d below)

  -- so its node stays, and sends nothing
  stays : (k : ℕ) → k < count_of net → node_at program net (suc p) (k + 1) ≡ (state_at program net p (k + 1), nothing (degree_of net (k + 1)))
  stays k below =
      rested program net laws p (k + 1) (slice_index_or untils k 0) (rests.rest k 0 below) (early k 0 below) (nothing-to k below)

  pub still-nodes : (nodes : List S) → Lists (count_of net) (state_at program net p) nodes → Lists (count_of net) (state_at program net (suc p)) nodes
  still-nodes nodes are = record { count = are.count; entry = λ k d below. are.entry k d below ∙ sym (ap (λ node. node.0) (stays k below)) }

  pub still-rests : AreResting program net (suc p) untils
  still-rests = record {
    count = rests.count;
    rest = λ k d below.
        rests_on program net laws p (k + 1) (slice_index_or untils k d) (rests.rest k d below) (ap (λ node. node.0) (stays k below));
  }

  quiet : (w : ℕ) → IsVertex net w → get_or (sent_by program net (suc p)) (w - 1) [] ≡ nothing (length (get_or (sent_by program net (suc p)) (w - 1) []))
  quiet w is_vertex =
      let back : w - 1 + 1 ≡ w = omega arith in
      let none = ap (λ (u : ℕ). nothing {M = M} (degree_of net u)) back in
      let node = ap (λ node. node.1) (stays (w - 1) (omega arith)) in
      let row = sent_by-at program net (suc p) w is_vertex ∙ (ap (λ (u : ℕ). (node_at program net (suc p) u).1) (sym back) ∙ (node ∙ none)) in
      row ∙ ap (λ (n : ℕ). nothing n) (sym (ap length row ∙ length-replicate (degree_of net w) None))

  -- nobody sent anything at this pulse: it would be in an inbox
  silent : (v : ℕ) → IsVertex net v → outbox_at program net p v ≡ nothing (degree_of net v)
  silent v is_vertex =
      let size = (node_at-ports program net laws p v).1 in
      ext_get_or None (outbox_at program net p v) (nothing (degree_of net v)) (size ∙ sym (length-replicate (degree_of net v) None)) (λ port low.
      let below : port < degree_of net v = omega (arith, size) in
      let w : ℕ = neighbour_of net v port in
      let is_w = ok.vertices v port is_vertex below in
      let d : Mail M = empty_inbox net w in
      let none : inbox_at program net (suc p) w ≡ nothing (degree_of net w) = ap (λ (mail : Mail M). mail.slots)
      (sym (at_vertex net (λ u. unread (inbox_at program net (suc p) u)) now w d came is_w) ∙ at_vertex net (empty_inbox net) now w d empty is_w) in
      sym (sent-to net (node_at program net p) v port ok is_vertex below)
      ∙ (ap (λ (slots : List (Option M)). at_port slots (back_port_of net v port)) none
      ∙ (at_port-nothing (degree_of net w) (back_port_of net v port) ∙ sym (at_port-nothing (degree_of net v) port))))

  pub still-loud : (loud : List Bool) → AreLoud program net p loud → AreLoud program net (suc p) loud
  still-loud loud h = record {
    count = h.count;
    loud = λ k d below. (
      λ same. ap (λ node. node.1) (stays k below),
      λ quiet. (h.loud k d below).1 (silent (k + 1) (omega arith, omega arith)),
    );
  }

  pub still-inboxes : Lists (count_of net) (λ v. unread (inbox_at program net (suc (suc p)) v)) now
  still-inboxes =
      let sent = sent_by program net (suc p) in
      let n = count_of net in
      Lists-received net (node_at program net (suc p)) sent now ok (sent_by-lists program net (suc p))
      (delivered_all net ok sent now (n + 1) refl
      (delivered_over net ok sent 1 (n + 1) now (omega arith) (λ w is_vertex low below. quiet w is_vertex) (delivered_start net ok sent now empty)))
