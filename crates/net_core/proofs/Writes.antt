-- What the event of a row writes down, by the pulse or the wire that it comes to: a test of these is one of the row.
use Rattle.std.proofs.Common.{◌≡◌, ◌≢◌, ◌<◌, ◌+◌, ◌∙◌, ℕ, Bool, true, false, Option, Some, None, ap, sym}
use Rattle.std.specs.Prelude.{MatchBool}
use Rattle.std.specs.Option.{option_map}
use Rattle.interference.specs.Net.{Net, degree_of, neighbour_of, port_to}
use Rattle.node_api.specs.Program.{Program}
use Rattle.wires.specs.declared.wire.Wire.{Wire}
use Rattle.entries.specs.declared.entry.Entry.{Entry}
use Rattle.entries.specs.declared.entry.Entry.TheVariants as entry
use Rattle.entries.specs.Rows.{vertex_row}
use Rattle.event_rule.specs.declared.event.Event.{Event}
use Rattle.event_rule.specs.declared.event.Event.TheVariants.{Put, Take}
use Rattle.event_rule.specs.State.{State, node_of}
use Rattle.event_rule.specs.Step.{has_port}
use Rattle.event_rule.proofs.NetKept.{port_from}
use Rattle.entries.specs.declared.rows.Row.{Row}
use Rattle.event_rule.specs.Rows.{event_of, event_with, has_place, next_wire, row_of}
use Rattle.event_rule.proofs.Writes.{leads, row-is}

pulse-apart : {M : Type 0} (v a b : ℕ) → ◌≡◌ {A = Option (Row M)} (Some (vertex_row v (entry.Pulse a))) (Some (vertex_row v (entry.Pulse b))) → a ≡ b
pulse-apart {M} v a b e =
    let row : ◌≡◌ {A = Row M} (vertex_row v (entry.Pulse a)) (vertex_row v (entry.Pulse b)) = cc in
    let same : ◌≡◌ {A = Entry M} (entry.Pulse a) (entry.Pulse b) = ap (λ r. r.entry) row in
    cc

put-apart : {M : Type 0} (w : ℕ) (x y : Wire M) → entry.Put w x ≡ entry.Put w y → x ≡ y
put-apart w x y e = cc

take-apart : {M : Type 0} (w : ℕ) (x y : Wire M) → entry.Take w x ≡ entry.Take w y → x ≡ y
take-apart w x y e = cc

module _ {M : Type 0} (net : Net) (v w : ℕ) (there : port_to net v w < degree_of net v) where
  row-other : (make : ℕ → Wire M → Entry M) → ((x y : Wire M) → make w x ≡ make w y → x ≡ y) → (oldest : Option (Wire M)) (wire : Wire M) → oldest ≢ Some wire →
      ◌≢◌ {A = Option (Row M)} (option_map (λ x. vertex_row v (make (neighbour_of net v (port_to net v w)) x)) oldest) (Some (vertex_row v (make w wire)))
  row-other make apart None wire other e = absurd cc
  row-other make apart (Some x) wire other e =
      let row : ◌≡◌ {A = Row M} (vertex_row v (make (neighbour_of net v (port_to net v w)) x)) (vertex_row v (make w wire)) = cc in
      other (ap Some (apart x wire (ap (λ u. make u x) (sym (leads net v w there)) ∙ ap (λ r. r.entry) row)))

module _ {S M E : Type 0} (program : Program S M E) (net : Net) (state : State S M) (row : Row M) (event : Event) (of : event ≡ event_of net row) where
  -- a test says whether the event writes down the row
  abbrev Tells : Bool → Type 0
  Tells b = MatchBool b (row_of program net state event ≡ Some row) (row_of program net state event ≢ Some row)

  pub pulse-tells : (told p : ℕ) → row.entry ≡ entry.Pulse p → told ≡ (node_of program net state row.vertex).view.pulse
      → (b : Bool) → MatchBool b (p ≡ told + 1) (p ≢ told + 1) → Tells b
  pulse-tells told p is told_is = by-test
    where
      v : ℕ
      v = row.vertex

      writes : row_of program net state event ≡ Some (vertex_row v (entry.Pulse (told + 1)))
      writes =
          ap (λ e. row_of program net state e) (of ∙ ap (λ e. event_with net v e) is)
          ∙ ap (λ n. Some (vertex_row v (entry.Pulse (n + 1)))) (sym told_is)

      row-has : row ≡ vertex_row v (entry.Pulse p)
      row-has = ap (λ e. vertex_row v e) is

      by-test : (b : Bool) → MatchBool b (p ≡ told + 1) (p ≢ told + 1) → Tells b
      by-test true next = writes ∙ ap (λ n. Some (vertex_row v (entry.Pulse n))) (sym next) ∙ ap Some (sym row-has)
      by-test false other = λ same. other (sym (pulse-apart v (told + 1) p (sym writes ∙ same ∙ ap Some row-has)))

  -- of an entry with a wire
  module _ (w : ℕ) (x : Wire M) (oldest : Option (Wire M)) (place : has_place net event ≡ true) (from : oldest ≡ next_wire program net state event) where
    wire-tells : (make : ℕ → Wire M → Entry M) → ((x y : Wire M) → make w x ≡ make w y → x ≡ y) → row.entry ≡ make w x
        → port_to net row.vertex w < degree_of net row.vertex
        → row_of program net state event ≡ option_map (λ y. vertex_row row.vertex (make (neighbour_of net row.vertex (port_to net row.vertex w)) y)) oldest
        → (b : Bool) → MatchBool b (oldest ≡ Some x) (oldest ≢ Some x) → Tells b
    wire-tells make apart is there writes true same =
        writes ∙ row-is net row.vertex w there make oldest x same ∙ ap (λ e. Some (vertex_row row.vertex e)) (sym is)
    wire-tells make apart is there writes false other =
        λ same. row-other net row.vertex w there make apart oldest x other (sym writes ∙ same ∙ ap (λ e. Some (vertex_row row.vertex e)) is)

    pub put-tells : row.entry ≡ entry.Put w x → (b : Bool) → MatchBool b (oldest ≡ Some x) (oldest ≢ Some x) → Tells b
    put-tells is =
        let v = row.vertex in
        let i = port_to net v w in
        let here : event ≡ Put v i = of ∙ ap (λ e. event_with net v e) is in
        let there : has_port net v i ≡ true = ap (λ e. has_place net e) (sym here) ∙ place in
        wire-tells (λ u y. entry.Put u y) (put-apart w) is (port_from net v i there).1
        (ap (λ e. row_of program net state e) here
        ∙ ap (λ o. option_map (λ y. vertex_row v (entry.Put (neighbour_of net v i) y)) o) (ap (λ e. next_wire program net state e) (sym here) ∙ sym from))

    pub take-tells : row.entry ≡ entry.Take w x → (b : Bool) → MatchBool b (oldest ≡ Some x) (oldest ≢ Some x) → Tells b
    take-tells is =
        let v = row.vertex in
        let i = port_to net v w in
        let here : event ≡ Take v i = of ∙ ap (λ e. event_with net v e) is in
        let there : has_port net v i ≡ true = ap (λ e. has_place net e) (sym here) ∙ place in
        wire-tells (λ u y. entry.Take u y) (take-apart w) is (port_from net v i there).1
        (ap (λ e. row_of program net state e) here
        ∙ ap (λ o. option_map (λ y. vertex_row v (entry.Take (neighbour_of net v i) y)) o) (ap (λ e. next_wire program net state e) (sym here) ∙ sym from))
