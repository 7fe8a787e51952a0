-- How far a part of a turn moves the counter: by one for each event, beyond the stamps of the wires that came.
use Rattle.std.proofs.Common.{◌≡◌, ℕ, zero, suc, ◌+◌, ◌<◌, ◌≤◌, List, [], ◌∷◌, ◌++◌, length, map, set, get_or, ap, ◌∙◌, arith}
use Rattle.std.specs.Prelude.{max}
use Rattle.std.proofs.lemmas.List.{length-append, length-map}
use Rattle.std.specs.declared.cmp.PartialEq as equality
use Rattle.node_api.specs.declared.program.NodeProgram as program
use Rattle.node_api.specs.declared.payload.PayloadText as text
use Rattle.wires.specs.StampedWires.{stamped}
use Rattle.wires.specs.declared.stamped.Stamped.{Stamped}
use Rattle.wires.specs.declared.wire.Wire.{Wire}
use Rattle.link_queue.specs.Ends.{put_stamped, taken_stamped}
use Rattle.wired_nodes.specs.Counted.{CountsOn, events_of, greatest_in, greatest_stamp, greatest_taken, wires_in}
use Rattle.wired_nodes.specs.Node.{by_port}
use Rattle.wired_nodes.specs.declared.wired.WiredPut.{WiredPut}
use Rattle.wired_nodes.specs.declared.wired.WiredTake.{WiredTake}
use Rattle.wired_nodes.specs.declared.wiring.Wiring as wiring
use Rattle.wired_nodes.specs.declared.node.Node.{Node}
use Rattle.wired_nodes.proofs.Keeping.{Came, Went}
use Rattle.wired_nodes.proofs.Lists.{grows}

-- ---- a wire more at the end of one list
module _ {M : Type 0} where
  greatest-append : (wires : List (Stamped M)) (w : Stamped M) → greatest_stamp (wires ++ (w ∷ [])) ≡ max (greatest_stamp wires) w.stamp
  greatest-append [] w = omega arith
  greatest-append (x ∷ wires) w = let e = greatest-append wires w in omega (arith, e)

  greatest-more : (lists : List (List (Stamped M))) (i : ℕ) (w : Stamped M) → i < length lists
      → greatest_in (set lists i (by_port lists i ++ (w ∷ []))) ≡ max (greatest_in lists) w.stamp
  greatest-more [] i w lt = absurd (omega (arith, lt))
  greatest-more (wires ∷ lists) zero w lt = let e = greatest-append wires w in omega (arith, e)
  greatest-more (wires ∷ lists) (suc i) w lt = let e = greatest-more lists i w (omega (arith, lt)) in omega (arith, e)

  wires-more : (lists : List (List (Stamped M))) (i : ℕ) (w : Stamped M) → i < length lists
      → wires_in (set lists i (by_port lists i ++ (w ∷ []))) ≡ wires_in lists + 1
  wires-more [] i w lt = absurd (omega (arith, lt))
  wires-more (wires ∷ lists) zero w lt = let e = length-append wires (w ∷ []) in omega (arith, e)
  wires-more (wires ∷ lists) (suc i) w lt = let e = wires-more lists i w (omega (arith, lt)) in omega (arith, e)

  module _ {A : Type 0} (f : A → List (Stamped M)) (xs : List A) (i : ℕ) (x y : A) (w : Stamped M) (lt : i < length xs) (is : x ≡ get_or xs i x)
      (more : f y ≡ f x ++ (w ∷ [])) where
    wires-gained : wires_in (map f (set xs i y)) ≡ wires_in (map f xs) + 1
    wires-gained = ap (λ l. wires_in l) (grows f xs i x y w lt is more) ∙ wires-more (map f xs) i w (omega (arith, lt, length-map xs f))

    greatest-gained : greatest_in (map f (set xs i y)) ≡ max (greatest_in (map f xs)) w.stamp
    greatest-gained = ap (λ l. greatest_in l) (grows f xs i x y w lt is more) ∙ greatest-more (map f xs) i w (omega (arith, lt, length-map xs f))

-- ---- a node before and after an event
module _ {J P T : Type 0} {j : wiring.Ghosts J} {p : program.Ghosts P T} {t : text.Ghosts T} {q : equality.Ghosts T} where
  counts-by : {old new : Node J P T j p t q} (n s : ℕ) → events_of new ≡ events_of old + n → greatest_taken new ≡ max (greatest_taken old) s
      → old.counter ≤ new.counter → new.counter ≤ max old.counter s + n → CountsOn old new
  counts-by n s events came onward within = record {
    onward = onward;
    came = omega (arith, came);
    events = omega (arith, events);
    within = omega (arith, events, came, within);
  }

  -- and an event more
  counts-more : {old new : Node J P T j p t q} (s : ℕ) → events_of new ≡ events_of old + 1 → greatest_taken new ≡ max (greatest_taken old) s
      → old.counter ≤ new.counter → new.counter ≤ max old.counter s + 1 → CountsOn old new × (events_of old < events_of new)
  counts-more s events came onward within = (counts-by 1 s events came onward within, omega (arith, events))

  -- one part of a turn after the other
  pub counts_both : (old via new : Node J P T j p t q) → CountsOn old via → CountsOn via new → CountsOn old new
  counts_both old via new a b = record {
    onward = omega (arith, a.onward, b.onward);
    came = omega (arith, a.came, b.came);
    events = omega (arith, a.events, b.events);
    within = omega (arith, a.within, b.within, b.came, a.events);
  }

  -- no event
  pub counts-still : {old new : Node J P T j p t q} → new.counter ≡ old.counter → new.alpha.node.view.pulse ≡ old.alpha.node.view.pulse
      → map (λ e. put_stamped e.end) new.puts.items ≡ map (λ e. put_stamped e.end) old.puts.items
      → map (λ e. taken_stamped e.end) new.takes.items ≡ map (λ e. taken_stamped e.end) old.takes.items → CountsOn old new
  counts-still counter pulse puts takes =
      let sent = ap (λ l. wires_in l) puts in
      let taken = ap (λ l. wires_in l) takes in
      let greatest = ap (λ l. greatest_in l) takes in
      counts-by 0 0 (omega (arith, pulse, sent, taken)) (omega (arith, greatest)) (omega (arith, counter)) (omega (arith, counter))

  -- a pulse
  pub counts-pulse : {old new : Node J P T j p t q} → new.counter ≡ old.counter + 1
      → new.alpha.node.view.pulse ≡ suc old.alpha.node.view.pulse
      → new.puts.items ≡ old.puts.items → new.takes.items ≡ old.takes.items → CountsOn old new × (events_of old < events_of new)
  counts-pulse counter pulse puts takes =
      let sent = ap (λ l. wires_in (map (λ e. put_stamped e.end) l)) puts in
      let taken = ap (λ l. wires_in (map (λ e. taken_stamped e.end) l)) takes in
      let greatest = ap (λ l. greatest_in (map (λ e. taken_stamped e.end) l)) takes in
      counts-more 0 (omega (arith, pulse, sent, taken)) (omega (arith, greatest)) (omega (arith, counter)) (omega (arith, counter))

  -- a wire was put by port i
  pub counts-put : {old new : Node J P T j p t q} {i s : ℕ} {x y : WiredPut J T j} {w : Wire T} → i < length old.puts.items
      → Went old.puts.items i x y s w → new.counter ≡ old.counter + 1 → new.alpha.node.view.pulse ≡ old.alpha.node.view.pulse
      → new.puts.items ≡ set old.puts.items i y → new.takes.items ≡ old.takes.items → CountsOn old new × (events_of old < events_of new)
  counts-put {old} {i = i} {s = s} {x = x} {y = y} {w = w} lt c counter pulse puts takes =
      let f : WiredPut J T j → List (Stamped T) = λ e. put_stamped e.end in
      let sent = ap (λ l. wires_in (map f l)) puts ∙ wires-gained f old.puts.items i x y (stamped s w) lt c.is c.more in
      let taken = ap (λ l. wires_in (map (λ e. taken_stamped e.end) l)) takes in
      let greatest = ap (λ l. greatest_in (map (λ e. taken_stamped e.end) l)) takes in
      counts-more 0 (omega (arith, pulse, sent, taken)) (omega (arith, greatest)) (omega (arith, counter)) (omega (arith, counter))

  -- a wire with stamp s came by port i
  pub counts-take : {old new : Node J P T j p t q} {i s : ℕ} {x y : WiredTake J T j} {w : Wire T} → i < length old.takes.items
      → Came old.takes.items i x y s w → old.counter ≤ new.counter → new.counter ≤ max old.counter s + 1
      → new.alpha.node.view.pulse ≡ old.alpha.node.view.pulse → new.puts.items ≡ old.puts.items → new.takes.items ≡ set old.takes.items i y
      → CountsOn old new × (events_of old < events_of new)
  counts-take {old} {i = i} {s = s} {x = x} {y = y} {w = w} lt c onward within pulse puts takes =
      let f : WiredTake J T j → List (Stamped T) = λ e. taken_stamped e.end in
      let sent = ap (λ l. wires_in (map (λ e. put_stamped e.end) l)) puts in
      let taken = ap (λ l. wires_in (map f l)) takes ∙ wires-gained f old.takes.items i x y (stamped s w) lt c.is c.more in
      let greatest = ap (λ l. greatest_in (map f l)) takes ∙ greatest-gained f old.takes.items i x y (stamped s w) lt c.is c.more in
      counts-more s (omega (arith, pulse, sent, taken)) (omega (arith, greatest)) onward within
