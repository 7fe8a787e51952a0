-- What a node with its ends keeps, event by event: each exit of a part of a turn is one of these.
use Rattle.std.proofs.Common.{◌≡◌, ℕ, ◌+◌, ◌^◌, ◌<◌, ◌≤◌, [], ◌∷◌, ◌++◌, List, Some, None, Ok, Err, length, set, get_or, map, refl, sym, ap, ◌∙◌}
use Rattle.std.proofs.Common.{subst, slice_get}
use Rattle.std.proofs.lemmas.List.{map-append}
use Rattle.std.proofs.Math.Logic.{∥∥₁_map}
use Rattle.std.specs.Prelude.{Option, IsTrue, true, max}
use Rattle.interference.specs.Net.{degree_of, neighbour_of, back_port_of}
use Rattle.node_api.specs.Program.{Program, last_pulse_on}
use Rattle.node_api.specs.Laws.{IsProgram}
use Rattle.alpha_core.specs.Alpha.{pulse, put_done, reaction}
use Rattle.alpha_core.specs.declared.refused.AlphaRefused.{AlphaRefused}
use Rattle.wires.specs.StampedWires.{last_stamp, stamped, wires_of}
use Rattle.wires.specs.declared.stamped.Stamped.{Stamped}
use Rattle.alpha_core.specs.View.{Node, can_pulse, port_at}
use Rattle.wires.specs.declared.wire.Wire.{Wire}
use Rattle.link_queue.specs.Ends.{put_list, put_stamped, take_name, taken_list, taken_stamped}
use Rattle.link_queue.specs.Queued.{stamped_of}
use Rattle.link_queue.specs.declared.queued.Queued.{Queued}
use Rattle.link_rule.specs.Legal.{IsLegalOn, LegalFor}
use Rattle.entries.specs.Recorded.{HasSame, HasWritten, entries_by, is_on}
use Rattle.entries.specs.declared.recorder.Recorder.{Recorder}
use Rattle.entries.specs.declared.entry.Entry.TheVariants.{Pulse, Put, Take}
use Rattle.entries.specs.Rows.{bare_of, stamped_entry}
use Rattle.entries.specs.declared.rows.StampedEntry.{StampedEntry}
use Rattle.wired_nodes.specs.Kept.{IsKept}
use Rattle.alpha_laws.specs.Kept.{NodeKept}
use Rattle.alpha_laws.specs.Stands.{TakesAreLegal}
use Rattle.wired_nodes.specs.Did.{Did}
use Rattle.wired_nodes.specs.HasStamps.{HasStamps}
use Rattle.wired_nodes.specs.Node.{IsAside, by_port, reacted_to}
use Rattle.wired_nodes.specs.Written.{IsTranscript}
use Rattle.wired_nodes.specs.declared.aside.Aside.{Aside}
use Rattle.wired_nodes.specs.declared.aside.WhyAside.TheVariants.{Refused, StampFull}
use Rattle.wired_nodes.specs.declared.wired.WiredPut.{WiredPut}
use Rattle.wired_nodes.specs.declared.wired.WiredTake.{WiredTake}
use Rattle.wired_nodes.specs.declared.wiring.Wiring as wiring
use Rattle.wired_nodes.proofs.HasStamps.{full_aside, last_at, has_aside, has_pulsed, has_put, has_taken}
use Rattle.wired_nodes.proofs.Kept.{legal_of_name}
use Rattle.wired_nodes.proofs.Recorded.{bare-written, same-stamped, same-written}
use Rattle.wired_nodes.proofs.Lists.{as_long, at_place, below_as_many, below_same, same_all}
use Rattle.wired_nodes.proofs.Queued.{parts_of}
use Rattle.wired_nodes.proofs.Steps.{aside_is, full_not_refused, full_stamp, none_and_some, pulsed, put_one, refused_is, refused_not_full, took_one}
use Rattle.wired_nodes.proofs.Steps.{took_refused}
use Rattle.wired_nodes.proofs.TakenLegal.{aside_legal, took_legal}
use Rattle.wired_nodes.proofs.Writes.{wrote_one_put, wrote_pulsed, wrote_refused, wrote_taken}

-- The end x, of port i, is y now: its list has the wire w more, with stamp s, or nothing more.
pub record Gained {M A : Type 0} (vertex port : A → ℕ) (list : A → List (Stamped M)) (ends : List A) (i : ℕ) (x y : A) (s : ℕ) (w : Wire M) : Type 0 where
  pub is : x ≡ get_or ends i x
  pub place : (vertex y ≡ vertex x) × (port y ≡ port x)
  pub more : list y ≡ list x ++ (stamped s w ∷ [])

pub record Stayed {M A : Type 0} (vertex port : A → ℕ) (list : A → List (Stamped M)) (ends : List A) (i : ℕ) (x y : A) : Type 0 where
  pub is : x ≡ get_or ends i x
  pub place : (vertex y ≡ vertex x) × (port y ≡ port x)
  pub same : list y ≡ list x

-- the list without stamps
wires_gained : {M A : Type 0} {vertex port : A → ℕ} {list : A → List (Stamped M)} {ends : List A} {i : ℕ} {x y : A} {s : ℕ} {w : Wire M}
    → Gained vertex port list ends i x y s w → wires_of (list y) ≡ wires_of (list x) ++ (w ∷ [])
wires_gained {list = list} {x = x} {s = s} {w = w} c = ap (λ l. wires_of l) c.more ∙ map-append (λ q. q.wire) (list x) (stamped s w ∷ [])

module _ {J M : Type 0} {j : wiring.Ghosts J} where
  -- It took the wire, or nothing.
  abbrev pub Came : List (WiredTake J M j) → ℕ → WiredTake J M j → WiredTake J M j → ℕ → Wire M → Type 0
  Came takes = Gained (λ e. e.vertex) (λ e. e.port) (λ e. taken_stamped e.end) takes

  abbrev pub NoneCame : List (WiredTake J M j) → ℕ → WiredTake J M j → WiredTake J M j → Type 0
  NoneCame takes = Stayed (λ e. e.vertex) (λ e. e.port) (λ e. taken_stamped e.end) takes

  -- It put the wire, or nothing.
  abbrev pub Went : List (WiredPut J M j) → ℕ → WiredPut J M j → WiredPut J M j → ℕ → Wire M → Type 0
  Went puts = Gained (λ e. e.vertex) (λ e. e.port) (λ e. put_stamped e.end) puts

  abbrev pub NoneWent : List (WiredPut J M j) → ℕ → WiredPut J M j → WiredPut J M j → Type 0
  NoneWent puts = Stayed (λ e. e.vertex) (λ e. e.port) (λ e. put_stamped e.end) puts

  pub came : {takes : List (WiredTake J M j)} {i : ℕ} {x y : WiredTake J M j} {s : ℕ} {w : Wire M} (item : Queued M) → x ≡ get_or takes i x
      → (y.vertex ≡ x.vertex) × (y.port ≡ x.port) → taken_stamped y.end ≡ taken_stamped x.end ++ (stamped_of item ∷ [])
      → s ≡ (stamped_of item).stamp → w ≡ (stamped_of item).wire → Came takes i x y s w
  came {takes} {i} {x} {y} {s} {w} item is place more stamp wire = record {
    is = is;
    place = place;
    more = more ∙ ap (λ q. taken_stamped x.end ++ (q ∷ [])) (parts_of item s w stamp (sym wire));
  }

module _ {J S M E : Type 0} {j : wiring.Ghosts J} {program : Program S M E} {v degree last counter : ℕ} {aside : Option (Aside M)}
    {node : Node S M} {puts : List (WiredPut J M j)} {takes : List (WiredTake J M j)} {wrote : Recorder M}
    (old : IsKept program v degree aside last node puts takes wrote counter) where
  -- an end for each port
  pub count_puts : length puts ≡ degree_of j.net v
  count_puts = as_long (λ e. (e.vertex, e.port)) (λ i. (v, i)) puts (degree_of j.net v) old.outs

  pub count_takes : length takes ≡ degree_of j.net v
  count_takes = as_long (λ e. (e.vertex, e.port)) (λ i. (neighbour_of j.net v i, back_port_of j.net v i)) takes (degree_of j.net v) old.ins

  pub port_below : (i : ℕ) → i < degree → i < degree_of j.net v
  port_below i lt = below_same i degree (degree_of j.net v) old.ports lt

  pub takes_within : (i : ℕ) → i < degree → i < length takes
  takes_within i lt = below_as_many i (length takes) (degree_of j.net v) count_takes (port_below i lt)

  pub puts_within : (i : ℕ) → i < degree → i < length puts
  puts_within i lt = below_as_many i (length puts) (degree_of j.net v) count_puts (port_below i lt)

  from_neighbour : (i : ℕ) (x : WiredTake J M j) → i < degree → x ≡ get_or takes i x
      → ◌≡◌ {A = ℕ × ℕ} (x.vertex, x.port) (neighbour_of j.net v i, back_port_of j.net v i)
  from_neighbour i x lt is = at_place (λ e. (e.vertex, e.port)) (λ i. (neighbour_of j.net v i, back_port_of j.net v i)) takes (degree_of j.net v) i x
      old.ins (port_below i lt) is

  -- room for an entry was made
  pub kept-room : {wrote' : Recorder M} → HasSame wrote wrote' → IsKept program v degree aside last node puts takes wrote' counter
  kept-room {wrote'} same = record {
    network = old.network;
    is_vertex = old.is_vertex;
    recorded = same.on ∙ old.recorded;
    ports = old.ports;
    outs = old.outs;
    ins = old.ins;
    last_is = old.last_is;
    keeps = old.keeps;
    legal = old.legal;
    set_aside = old.set_aside;
    writes = same-written same old.writes;
    stamps = same-stamped same old.stamps;
    full = old.full;
    did = old.did;
  }

  -- entries of all that a node of v did, with these ends
  abbrev DidOf : ℕ → Option (Aside M) → Node S M → List (WiredPut J M j) → List (WiredTake J M j) → Type 0
  DidOf count out at xs ys = Did program j.net v count at (by_port (map (λ e. put_list e.end) xs))
      (by_port (reacted_to out (map (λ e. taken_list e.end) ys))) (by_port (map (λ e. put_stamped e.end) xs))
      (by_port (map (λ e. taken_stamped e.end) ys))

  -- an event, after which nothing is set aside: what it changes
  kept-by : {new : Node S M} {last' counter' : ℕ} {puts' : List (WiredPut J M j)} {takes' : List (WiredTake J M j)} {wrote' : Recorder M}
      → aside ≡ None → map {B = ℕ × ℕ} (λ e. (e.vertex, e.port)) puts' ≡ map {B = ℕ × ℕ} (λ e. (e.vertex, e.port)) puts
      → map {B = ℕ × ℕ} (λ e. (e.vertex, e.port)) takes' ≡ map {B = ℕ × ℕ} (λ e. (e.vertex, e.port)) takes → last' ≡ last → is_on wrote' ≡ is_on wrote
      → NodeKept program j.net v new (by_port (map (λ e. put_list e.end) puts')) (by_port (reacted_to aside (map (λ e. taken_list e.end) takes')))
      → TakesAreLegal program j.net v (by_port (reacted_to aside (map (λ e. taken_list e.end) takes')))
      → IsTranscript program j.net v (is_on wrote) new (by_port (map (λ e. put_list e.end) puts'))
      (by_port (reacted_to aside (map (λ e. taken_list e.end) takes'))) (bare_of (entries_by wrote'))
      → HasStamps j.net v (is_on wrote) counter' (by_port (map (λ e. put_stamped e.end) puts')) (by_port (map (λ e. taken_stamped e.end) takes'))
      (entries_by wrote')
      → ∥ DidOf counter' aside new puts' takes' ∥₁
      → IsKept program v degree aside last' new puts' takes' wrote' counter'
  kept-by {new} {last'} {counter'} {puts'} {takes'} {wrote'} going outs ins same on keeps legal writes stamps did = record {
    network = old.network;
    is_vertex = old.is_vertex;
    recorded = on ∙ old.recorded;
    ports = old.ports;
    outs = outs ∙ old.outs;
    ins = ins ∙ old.ins;
    last_is = same ∙ old.last_is;
    keeps = keeps;
    legal = legal;
    set_aside = λ a e. absurd (none_and_some aside a going e);
    writes = subst (λ t. IsTranscript program j.net v t new (by_port (map (λ e. put_list e.end) puts'))
        (by_port (reacted_to aside (map (λ e. taken_list e.end) takes'))) (bare_of (entries_by wrote'))) (sym on) writes;
    stamps = subst (λ t. HasStamps j.net v t counter' (by_port (map (λ e. put_stamped e.end) puts')) (by_port (map (λ e. taken_stamped e.end) takes'))
        (entries_by wrote')) (sym on) stamps;
    full = λ a e. absurd (none_and_some aside a going e);
    did = did;
  }

  -- nothing came by port i
  pub kept-none-came : {i : ℕ} {x y : WiredTake J M j} → aside ≡ None → NoneCame takes i x y
      → IsKept program v degree aside last node puts (set takes i y) wrote counter
  kept-none-came {i} {x} {y} going c =
      let wires = sym (same_all (λ e. taken_list e.end) takes i x y c.is (ap (λ l. wires_of l) c.same)) in
      let sent = by_port (map (λ e. put_list e.end) puts) in
      kept-by going refl (same_all (λ e. (e.vertex, e.port)) takes i x y c.is (λ k. (c.place.0 k, c.place.1 k))) refl refl
      (subst (λ l. NodeKept program j.net v node sent (by_port (reacted_to aside l))) wires old.keeps)
      (subst (λ l. TakesAreLegal program j.net v (by_port (reacted_to aside l))) wires old.legal)
      (subst (λ l. IsTranscript program j.net v (is_on wrote) node sent (by_port (reacted_to aside l)) (bare_of (entries_by wrote))) wires old.writes)
      (subst (λ l. HasStamps j.net v (is_on wrote) counter (by_port (map (λ e. put_stamped e.end) puts)) (by_port l) (entries_by wrote))
      (sym (same_all (λ e. taken_stamped e.end) takes i x y c.is c.same)) old.stamps)
      (∥∥₁_map old.did (λ d. record {
        entries = d.entries;
        writes = subst (λ l. IsTranscript program j.net v true node sent (by_port (reacted_to aside l)) (bare_of d.entries)) wires d.writes;
        stamps = subst (λ l. HasStamps j.net v true counter (by_port (map (λ e. put_stamped e.end) puts)) (by_port l) d.entries)
            (sym (same_all (λ e. taken_stamped e.end) takes i x y c.is c.same)) d.stamps;
      }))

  -- a wire came, and the node reacted
  pub kept-took : {new : Node S M} {last' counter' next : ℕ} {wrote' : Recorder M} {i : ℕ}
      {x y : WiredTake J M j} {s : ℕ} {w : Wire M} → aside ≡ None → i < degree → Came takes i x y s w
      → LegalFor (IsLegalOn program) (take_name x.end) (taken_list y.end) → reaction last node.view i w ≡ Ok new.view → new.state ≡ node.state
      → last' ≡ last → next ≡ max counter s + 1 → counter' ≡ next
      → HasWritten next (Take y.vertex w) wrote wrote'
      → IsKept program v degree aside last' new puts (set takes i y) wrote' counter'
  kept-took {new} {last'} {counter'} {next} {wrote'} {i} {x} {y} {s} {w} going port c legal reacts state same stamp moved more =
      let lt = port_below i port in
      let at = from_neighbour i x port c.is in
      let from = c.place.0 ∙ ap (λ (p : ℕ × ℕ). p.0) at in
      let legal' = legal_of_name program j.net old.network v i x.vertex x.port (take_name x.end) (taken_list y.end) old.is_vertex lt x.place.named at legal in
      kept-by going refl (same_all (λ e. (e.vertex, e.port)) takes i x y c.is (λ k. (c.place.0 k, c.place.1 k))) same more.on
      (took_one program j.net (λ e. put_list e.end) (λ e. taken_list e.end) v node new puts takes aside i x y w last old.last_is count_takes lt going
      c.is (wires_gained c) legal' reacts state old.keeps)
      (took_legal program j.net (λ e. taken_list e.end) v takes aside i x y w count_takes lt going c.is (wires_gained c) legal' old.legal)
      (wrote_taken program j.net (λ e. put_list e.end) (λ e. taken_list e.end) v (is_on wrote) old.network old.is_vertex node new puts takes aside i x y w last
      y.vertex (bare_of (entries_by wrote)) (bare_of (entries_by wrote')) old.last_is count_takes lt going c.is (wires_gained c) reacts state from
      (bare-written more) old.writes)
      (has_taken program j.net (λ e. put_stamped e.end) (λ e. taken_stamped e.end) v (is_on wrote) old.network old.is_vertex node counter next counter'
      y.vertex puts takes aside i x y (stamped s w) (entries_by wrote) (entries_by wrote') count_takes lt going c.is c.more from stamp moved more.entries
      old.writes old.stamps)
      (∥∥₁_map old.did (λ d.
      let e : StampedEntry M = stamped_entry next (Take y.vertex w) in
      record {
        entries = d.entries ++ (e ∷ []);
        writes = wrote_taken program j.net (λ e. put_list e.end) (λ e. taken_list e.end) v true old.network old.is_vertex node new puts takes aside i x y w
            last y.vertex (bare_of d.entries) (bare_of (d.entries ++ (e ∷ []))) old.last_is count_takes lt going c.is (wires_gained c) reacts state from
            (map-append (λ q. q.entry) d.entries (e ∷ [])) d.writes;
        stamps = has_taken program j.net (λ e. put_stamped e.end) (λ e. taken_stamped e.end) v true old.network old.is_vertex node counter next counter'
            y.vertex puts takes aside i x y (stamped s w) d.entries (d.entries ++ (e ∷ [])) count_takes lt going c.is c.more from stamp moved refl
            d.writes d.stamps;
      }))

  -- a wire came, and was set aside: the node refused it, or its stamp would be too great
  kept-aside : {new : Node S M} {last' : ℕ} {i : ℕ} {x y : WiredTake J M j} {s : ℕ} {w : Wire M} (a : Aside M) → a.port ≡ i
      → ((k : ℕ) → a.why ≡ StampFull k → (s ≡ k) × (2 ^ 64 ≤ max counter k + 1))
      → ((b : Aside M) → Some a ≡ Some b → IsAside (last_pulse_on program j.net) new.view (map (λ e. taken_list e.end) (set takes i y)) b)
      → aside ≡ None → i < degree → Came takes i x y s w → new ≡ node → last' ≡ last
      → IsKept program v degree (Some a) last' new puts (set takes i y) wrote counter
  kept-aside {new} {last'} {i} {x} {y} {s} {w} a at full is_aside going port c same_node same =
      let lt = port_below i port in
      record {
        network = old.network;
        is_vertex = old.is_vertex;
        recorded = old.recorded;
        ports = old.ports;
        outs = old.outs;
        ins = same_all (λ e. (e.vertex, e.port)) takes i x y c.is (λ k. (c.place.0 k, c.place.1 k)) ∙ old.ins;
        last_is = same ∙ old.last_is;
        keeps = took_refused program j.net (λ e. put_list e.end) (λ e. taken_list e.end) v node new puts takes aside i x y w a at count_takes lt going
            c.is (wires_gained c) same_node old.keeps;
        legal = aside_legal program j.net (λ e. taken_list e.end) v takes aside i x y w a at count_takes lt going c.is (wires_gained c) old.legal;
        set_aside = is_aside;
        writes = wrote_refused program j.net (λ e. put_list e.end) (λ e. taken_list e.end) v (is_on wrote) node new puts takes aside i x y w a
            (bare_of (entries_by wrote)) at count_takes lt going c.is (wires_gained c) same_node old.writes;
        stamps = has_aside program j.net (λ e. put_stamped e.end) (λ e. taken_stamped e.end) v (is_on wrote) old.network old.is_vertex node counter puts takes
            aside i x y (stamped s w) (entries_by wrote) count_takes lt going c.is c.more old.writes old.stamps;
        full = full_aside (λ e. taken_stamped e.end) takes i x y (stamped s w) a (takes_within i port) c.is c.more at counter full;
        did = ∥∥₁_map old.did (λ d. record {
          entries = d.entries;
          writes = wrote_refused program j.net (λ e. put_list e.end) (λ e. taken_list e.end) v true node new puts takes aside i x y w a
              (bare_of d.entries) at count_takes lt going c.is (wires_gained c) same_node d.writes;
          stamps = has_aside program j.net (λ e. put_stamped e.end) (λ e. taken_stamped e.end) v true old.network old.is_vertex node counter puts takes
              aside i x y (stamped s w) d.entries count_takes lt going c.is c.more d.writes d.stamps;
        });
      }

  pub kept-refused : {new : Node S M} {last' : ℕ} {i : ℕ} {x y : WiredTake J M j} {s : ℕ} {w : Wire M} {e : AlphaRefused} → aside ≡ None → i < degree
      → Came takes i x y s w → reaction last node.view i w ≡ Err e → new ≡ node → last' ≡ last
      → IsKept program v degree (Some record { port = i; wire = w; why = Refused }) last' new puts (set takes i y) wrote counter
  kept-refused {new} {last'} {i} {x} {y} {s} {w} {e} going port c refused same_node same =
      let a : Aside M = record { port = i; wire = w; why = Refused } in
      kept-aside a refl (λ k is. absurd (refused_not_full k is))
      (refused_is program j.net (λ e. taken_list e.end) node new takes i x y w a e last old.last_is refl refl (takes_within i port) c.is (wires_gained c)
      same_node refused) going port c same_node same

  pub kept-full : {i : ℕ} {x y : WiredTake J M j} {s : ℕ} {w : Wire M} → aside ≡ None → i < degree → Came takes i x y s w → 2 ^ 64 ≤ max counter s + 1
      → IsKept program v degree (Some record { port = i; wire = w; why = StampFull s }) last node puts (set takes i y) wrote counter
  kept-full {i} {x} {y} {s} {w} going port c past =
      let a : Aside M = record { port = i; wire = w; why = StampFull s } in
      kept-aside a refl (λ k is. (full_stamp s k is, subst (λ n. 2 ^ 64 ≤ max counter n + 1) (full_stamp s k is) past))
      (aside_is program j.net (λ e. taken_list e.end) node node takes i x y w a refl refl (takes_within i port) c.is (wires_gained c) refl
      (λ why. absurd (full_not_refused s why))) going port c refl refl

  -- the stamp of the wire that came, or was put
  pub last_came : {i : ℕ} {x y : WiredTake J M j} {s : ℕ} {w : Wire M} → i < degree → Came takes i x y s w
      → last_stamp (by_port (map (λ e. taken_stamped e.end) (set takes i y)) i) ≡ s
  last_came {i} {x} {y} {s} {w} port c = last_at (λ e. taken_stamped e.end) takes i x y (stamped s w) (takes_within i port) c.is c.more

  pub last_went : {i : ℕ} {x y : WiredPut J M j} {s : ℕ} {w : Wire M} → i < degree → Went puts i x y s w
      → last_stamp (by_port (map (λ e. put_stamped e.end) (set puts i y)) i) ≡ s
  last_went {i} {x} {y} {s} {w} port c =
      last_at (λ e. put_stamped e.end) puts i x y (stamped s w) (puts_within i port) c.is c.more

  -- nothing was put by port i
  pub kept-none-put : {i : ℕ} {x y : WiredPut J M j} → aside ≡ None → NoneWent puts i x y
      → IsKept program v degree aside last node (set puts i y) takes wrote counter
  kept-none-put {i} {x} {y} going c =
      let wires = sym (same_all (λ e. put_list e.end) puts i x y c.is (ap (λ l. wires_of l) c.same)) in
      let taken = by_port (reacted_to aside (map (λ e. taken_list e.end) takes)) in
      kept-by going (same_all (λ e. (e.vertex, e.port)) puts i x y c.is (λ k. (c.place.0 k, c.place.1 k))) refl refl refl
      (subst (λ l. NodeKept program j.net v node (by_port l) taken) wires old.keeps)
      old.legal
      (subst (λ l. IsTranscript program j.net v (is_on wrote) node (by_port l) taken (bare_of (entries_by wrote))) wires old.writes)
      (subst (λ l. HasStamps j.net v (is_on wrote) counter (by_port l) (by_port (map (λ e. taken_stamped e.end) takes)) (entries_by wrote))
      (sym (same_all (λ e. put_stamped e.end) puts i x y c.is c.same)) old.stamps)
      (∥∥₁_map old.did (λ d. record {
        entries = d.entries;
        writes = subst (λ l. IsTranscript program j.net v true node (by_port l) taken (bare_of d.entries)) wires d.writes;
        stamps = subst (λ l. HasStamps j.net v true counter (by_port l) (by_port (map (λ e. taken_stamped e.end) takes)) d.entries)
            (sym (same_all (λ e. put_stamped e.end) puts i x y c.is c.same)) d.stamps;
      }))

  -- the oldest wire of the out-list of port i was put; z is the end that takes from the neighbour
  pub kept-put : {new : Node S M} {last' counter' next : ℕ} {wrote' : Recorder M} {i : ℕ}
      {x y : WiredPut J M j} {z : WiredTake J M j} {w : Wire M} → aside ≡ None → i < degree → Went puts i x y next w → z ≡ get_or takes i z
      → slice_get (port_at node.view i).out 0 ≡ Some w → new.view ≡ put_done node.view i → new.state ≡ node.state
      → last' ≡ last → next ≡ counter + 1 → counter' ≡ next
      → HasWritten next (Put z.vertex w) wrote wrote'
      → IsKept program v degree aside last' new (set puts i y) takes wrote' counter'
  kept-put {new} {last'} {counter'} {next} {wrote'} {i} {x} {y} {z} {w} going port c is oldest view state same stamp moved more =
      let lt = port_below i port in
      let to = ap (λ (p : ℕ × ℕ). p.0) (from_neighbour i z port is) in
      kept-by going (same_all (λ e. (e.vertex, e.port)) puts i x y c.is (λ k. (c.place.0 k, c.place.1 k))) refl same more.on
      (put_one program j.net (λ e. put_list e.end) (λ e. taken_list e.end) v node new puts takes aside i x y w count_puts lt c.is (wires_gained c) oldest
      view state old.keeps)
      old.legal
      (wrote_one_put program j.net (λ e. put_list e.end) (λ e. taken_list e.end) v (is_on wrote) old.network old.is_vertex node new puts takes aside
      i x y w z.vertex (bare_of (entries_by wrote)) (bare_of (entries_by wrote')) count_puts lt c.is (wires_gained c) oldest view state to
      (bare-written more) old.writes)
      (has_put program j.net (λ e. put_stamped e.end) (λ e. taken_stamped e.end) v (is_on wrote) old.network old.is_vertex counter next counter' z.vertex
      puts takes i x y w (entries_by wrote) (entries_by wrote') count_puts lt c.is c.more to stamp moved more.entries old.stamps)
      (∥∥₁_map old.did (λ d.
      let e : StampedEntry M = stamped_entry next (Put z.vertex w) in
      record {
        entries = d.entries ++ (e ∷ []);
        writes = wrote_one_put program j.net (λ e. put_list e.end) (λ e. taken_list e.end) v true old.network old.is_vertex node new puts takes aside
            i x y w z.vertex (bare_of d.entries) (bare_of (d.entries ++ (e ∷ []))) count_puts lt c.is (wires_gained c) oldest view state to
            (map-append (λ q. q.entry) d.entries (e ∷ [])) d.writes;
        stamps = has_put program j.net (λ e. put_stamped e.end) (λ e. taken_stamped e.end) v true old.network old.is_vertex counter next counter' z.vertex
            puts takes i x y w d.entries (d.entries ++ (e ∷ [])) count_puts lt c.is c.more to stamp moved refl d.stamps;
      }))

  -- a pulse was made
  pub kept-pulsed : {new : Node S M} {last' counter' next number : ℕ} {wrote' : Recorder M} → IsProgram program
      → aside ≡ None → IsTrue (can_pulse last node.view) → pulse program.next last node ≡ Ok new → number ≡ new.view.pulse
      → last' ≡ last → next ≡ counter + 1 → counter' ≡ next
      → HasWritten next (Pulse number) wrote wrote'
      → IsKept program v degree aside last' new puts takes wrote' counter'
  kept-pulsed {new} {last'} {counter'} {next} {number} {wrote'} laws going can made is same stamp moved more =
      let sent = by_port (map (λ e. put_list e.end) puts) in
      let taken = by_port (reacted_to aside (map (λ e. taken_list e.end) takes)) in
      kept-by going refl refl same more.on
      (pulsed program j.net laws old.network v node new sent taken last old.last_is old.is_vertex can made old.keeps)
      old.legal
      (wrote_pulsed program j.net v (is_on wrote) node new sent taken last number (bare_of (entries_by wrote)) (bare_of (entries_by wrote')) old.last_is
      can made is (bare-written more) old.writes)
      (has_pulsed program j.net (λ e. put_stamped e.end) (λ e. taken_stamped e.end) v (is_on wrote) old.network old.is_vertex counter next counter' number
      puts takes (entries_by wrote) (entries_by wrote') stamp moved more.entries old.stamps)
      (∥∥₁_map old.did (λ d.
      let e : StampedEntry M = stamped_entry next (Pulse number) in
      record {
        entries = d.entries ++ (e ∷ []);
        writes = wrote_pulsed program j.net v true node new sent taken last number (bare_of d.entries) (bare_of (d.entries ++ (e ∷ []))) old.last_is
            can made is (map-append (λ q. q.entry) d.entries (e ∷ [])) d.writes;
        stamps = has_pulsed program j.net (λ e. put_stamped e.end) (λ e. taken_stamped e.end) v true old.network old.is_vertex counter next counter' number
            puts takes d.entries (d.entries ++ (e ∷ [])) stamp moved refl d.stamps;
      }))
