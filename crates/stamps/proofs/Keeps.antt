-- Each event of a node keeps its stamps.
use Rattle.std.proofs.Common.{◌≡◌, ℕ, suc, ◌+◌, ◌<◌, ◌≤◌, ◌==◌, List, [], ◌∷◌, ◌++◌, length, get_or, refl, sym, ap, ◌∙◌, ⊎_elim, inl, inr}
use Rattle.std.proofs.Common.{append_assoc, arith, subst}
use Rattle.std.specs.Prelude.{max, ◌⊎◌}
use Rattle.std.proofs.lemmas.Bool.{cases_eq, cases_lt, eq-eqb, ne_eqb}
use Rattle.std.proofs.lemmas.List.{append-nil, get_or_append_left, get_or_push, length-append, length-map, map-append}
use Rattle.interference.specs.Net.{Net, IsNetwork, IsVertex, degree_of, neighbour_of, neighbours, port_to}
use Rattle.interference.proofs.Members.{place_of-is}
use Rattle.interference.proofs.Neighbours.{port_to-is}
use Rattle.wires.specs.declared.stamped.Stamped.{Stamped}
use Rattle.wires.specs.declared.wire.Wire.{Wire}
use Rattle.entries.specs.declared.entry.Entry.{Entry}
use Rattle.entries.specs.declared.entry.Entry.TheVariants.{Pulse, Put, Take}
use Rattle.wires.specs.StampedWires.{stamped, stamps_of}
use Rattle.entries.specs.declared.rows.StampedEntry.{StampedEntry}
use Rattle.entries.specs.Rows.{stamped_entry}
use Rattle.stamps.specs.Stamps.{AreStamped, counter_of, next_stamp, put_if, put_in, taken_in}
use Rattle.stamps.specs.Keeps.{HasTaken, OneMore, came_to}
use Rattle.stamps.specs.Laws.{EventsKeepStamps}
use Rattle.stamps.proofs.Local.{counter_behind, taken_more}

-- an entry of a list with one more at its end is the last, or is in the list
pub split_push : {A : Type 0} (xs : List A) (e : A) (before : List A) (x : A) (after : List A) → xs ++ (e ∷ []) ≡ before ++ (x ∷ after)
    → ((before ≡ xs) × (x ≡ e)) ⊎ ((rest : List A) × (xs ≡ before ++ (x ∷ rest)))
split_push [] e [] x after is = inl (refl, cc)
split_push [] e (b ∷ []) x after is = absurd cc
split_push [] e (b ∷ c ∷ before) x after is = absurd cc
split_push (y ∷ xs) e [] x after is = let head : y ≡ x = cc in inr (xs, ap (λ z. z ∷ xs) head)
split_push (y ∷ xs) e (b ∷ before) x after is =
    let head : y ≡ b = cc in
    let tail : xs ++ (e ∷ []) ≡ before ++ (x ∷ after) = cc in
    ⊎_elim (λ last. inl (ap (λ l. b ∷ l) last.0 ∙ ap (λ z. z ∷ xs) (sym head), last.1))
    (λ more. inr (more.0, ap (λ z. z ∷ xs) head ∙ ap (λ l. b ∷ l) more.1))
    (split_push xs e before x after tail)

module _ {M : Type 0} where
  put_more : (xs ys : List (StampedEntry M)) (w : ℕ) → put_in (xs ++ ys) w ≡ put_in xs w ++ put_in ys w
  put_more [] ys w = refl
  put_more (e ∷ xs) ys w =
      let first = put_if (λ to. to == w) e.stamp e.entry in
      ap (λ l. first ++ l) (put_more xs ys w) ∙ sym (append_assoc first (put_in xs w) (put_in ys w))

  stamped_push : (came : ℕ → List ℕ) (entries : List (StampedEntry M)) (e : StampedEntry M) → AreStamped came entries
      → e.stamp ≡ next_stamp came entries e.entry → AreStamped came (entries ++ (e ∷ []))
  stamped_push came entries e right is before x after split = ⊎_elim
      (λ last. ap (λ y. y.stamp) last.1 ∙ is ∙ ap (λ l. next_stamp came l e.entry) (sym last.0) ∙ ap (λ y. next_stamp came before y.entry) (sym last.1))
      (λ more. right before x more.0 more.1)
      (split_push entries e before x after split)

  -- the next stamp of an entry of a list, where the stamps of the wires that were taken stay
  next_more : (came came' : ℕ → List ℕ) (entries before : List (StampedEntry M)) (s : ℕ) (e : Entry M) (after : List (StampedEntry M))
      → ((w k : ℕ) → k < length (taken_in entries w) → get_or (came w) k 0 ≡ get_or (came' w) k 0) → entries ≡ before ++ (stamped_entry s e ∷ after)
      → next_stamp came before e ≡ next_stamp came' before e
  next_more came came' entries before s (Pulse p) after same split = refl
  next_more came came' entries before s (Put w x) after same split = refl
  next_more came came' entries before s (Take w x) after same split =
      let all : taken_in entries w ≡ taken_in before w ++ taken_in (stamped_entry s (Take w x) ∷ after) w =
      ap (λ l. taken_in l w) split ∙ taken_more before (stamped_entry s (Take w x) ∷ after) w in
      let one : taken_in (stamped_entry s (Take w x) ∷ after) w ≡ stamped s x ∷ taken_in after w = let yes = eq-eqb w w refl in rw yes refl in
      let lt : length (taken_in before w) < length (taken_in entries w) =
      let a = ap (λ l. length l) all in let b = ap (λ l. length l) one in
      let c = length-append (taken_in before w) (taken_in (stamped_entry s (Take w x) ∷ after) w) in
      omega (arith, a, b, c) in
      ap (λ t. suc (max (counter_of before) t)) (same w (length (taken_in before w)) lt)

  stamped_more : (came came' : ℕ → List ℕ) (entries : List (StampedEntry M))
      → ((w k : ℕ) → k < length (taken_in entries w) → get_or (came w) k 0 ≡ get_or (came' w) k 0) → AreStamped came entries → AreStamped came' entries
  stamped_more came came' entries same right before e after split =
      right before e after split ∙ next_more came came' entries before e.stamp e.entry after same split

module _ {M : Type 0} (net : Net) (ok : IsNetwork net) (v : ℕ) (vertex : IsVertex net v) where
  -- one wire more was taken
  came_same : (i : ℕ) (wire : Stamped M) (takens takens' : ℕ → List (Stamped M)) (entries : List (StampedEntry M)) → i < degree_of net v
      → HasTaken net v takens entries → OneMore i wire takens takens' → ((w : ℕ) → (port_to net v w < degree_of net v → ⊥) → length (taken_in entries w) ≡ 0)
      → (w k : ℕ) → k < length (taken_in entries w) → get_or (came_to net v takens w) k 0 ≡ get_or (came_to net v takens' w) k 0
  came_same i wire takens takens' entries lt has more none w k within = ⊎_elim
      (λ below. ⊎_elim
      (λ here.
      let at : neighbour_of net v (port_to net v w) ≡ w = place_of-is w (neighbours net v) 0 below in
      let few : length (taken_in entries w) ≤ length (takens (port_to net v w)) =
      subst (λ u. length (taken_in entries u) ≤ length (takens (port_to net v w))) at (has (port_to net v w) below) in
      let old = takens (port_to net v w) in
      let inside : k < length (stamps_of old) = let n = length-map old (λ x. x.stamp) in omega (arith, within, few, n) in
      sym (get_or_append_left (stamps_of old) (wire.stamp ∷ []) 0 k inside)
      ∙ ap (λ l. get_or l k 0) (sym (map-append (λ x. x.stamp) old (wire ∷ []))
      ∙ ap (λ j. stamps_of (takens j ++ (wire ∷ []))) here ∙ ap (λ l. stamps_of l) (sym more.here) ∙ ap (λ j. stamps_of (takens' j)) (sym here)))
      (λ ne. ap (λ l. get_or (stamps_of l) k 0) (more.others (port_to net v w) ne))
      (cases_eq (port_to net v w) i))
      (λ past. let e = none w (λ lt'. omega (arith, past, lt')) in absurd (omega (arith, e, within)))
      (cases_lt (port_to net v w) (degree_of net v))

  -- what is put at one port
  put_grown : (i : ℕ) (wire : Stamped M) (puts puts' : ℕ → List (Stamped M)) (entries : List (StampedEntry M)) (x : Wire M) (s : ℕ) → i < degree_of net v
      → wire ≡ stamped s x → OneMore i wire puts puts' → ((j : ℕ) → j < degree_of net v → put_in entries (neighbour_of net v j) ≡ puts j)
      → (j : ℕ) → j < degree_of net v → put_in (entries ++ (stamped_entry s (Put (neighbour_of net v i) x) ∷ [])) (neighbour_of net v j) ≡ puts' j
  put_grown i wire puts puts' entries x s lt is more are j lt' =
      let e : StampedEntry M = stamped_entry s (Put (neighbour_of net v i) x) in
      put_more entries (e ∷ []) (neighbour_of net v j) ∙ ⊎_elim
      (λ here.
      let yes = eq-eqb (neighbour_of net v i) (neighbour_of net v j) (ap (λ k. neighbour_of net v k) (sym here)) in
      let one : put_in (e ∷ []) (neighbour_of net v j) ≡ stamped s x ∷ [] = rw yes refl in
      ap (λ l. put_in entries (neighbour_of net v j) ++ l) one ∙ ap (λ l. l ++ (stamped s x ∷ [])) (are j lt') ∙ ap (λ k. puts k ++ (stamped s x ∷ [])) here
      ∙ ap (λ y. puts i ++ (y ∷ [])) (sym is) ∙ sym more.here ∙ ap (λ k. puts' k) (sym here))
      (λ ne.
      let no = ne_eqb (neighbour_of net v i) (neighbour_of net v j) (λ one. ne (sym (port_to-is net ok v j vertex lt') ∙ ap (λ k. port_to net v k) (sym one)
      ∙ port_to-is net ok v i vertex lt)) in
      let none : put_in (e ∷ []) (neighbour_of net v j) ≡ [] = rw no refl in
      ap (λ l. put_in entries (neighbour_of net v j) ++ l) none ∙ append-nil (put_in entries (neighbour_of net v j)) ∙ are j lt' ∙ more.others j ne)
      (cases_eq j i)

  same_puts : (puts : ℕ → List (Stamped M)) (entries : List (StampedEntry M)) (e : StampedEntry M) → ((w : ℕ) → put_in (e ∷ []) w ≡ [])
      → ((j : ℕ) → j < degree_of net v → put_in entries (neighbour_of net v j) ≡ puts j)
      → (j : ℕ) → j < degree_of net v → put_in (entries ++ (e ∷ [])) (neighbour_of net v j) ≡ puts j
  same_puts puts entries e none are j lt =
      put_more entries (e ∷ []) (neighbour_of net v j) ∙ ap (λ l. put_in entries (neighbour_of net v j) ++ l) (none (neighbour_of net v j))
      ∙ append-nil (put_in entries (neighbour_of net v j)) ∙ are j lt

  no_split : (before : List (StampedEntry M)) (e : StampedEntry M) (after : List (StampedEntry M)) → [] ≡ before ++ (e ∷ after) → ⊥
  no_split [] e after is = absurd cc
  no_split (x ∷ before) e after is = absurd cc

  pub keeps : EventsKeepStamps M net v
  keeps = record {
    starts = record { stamped = λ before e after is. absurd (no_split before e after is); counter_is = refl; put_are = λ i lt. refl };
    puts = λ i counter wire puts puts' takens entries lt kept more.
        let e : StampedEntry M = stamped_entry (counter + 1) (Put (neighbour_of net v i) wire) in
        let n = kept.counter_is in
        record {
          stamped = stamped_push (came_to net v takens) entries e kept.stamped (let is : counter + 1 ≡ suc (counter_of entries) = omega (arith, n) in is);
          counter_is = counter_behind 0 entries e;
          put_are = put_grown i (stamped (counter + 1) wire) puts puts' entries wire (counter + 1) lt refl more kept.put_are;
        };
    takes = λ i counter wire puts takens takens' entries lt kept has count none more.
        let w = neighbour_of net v i in
        let s = max counter wire.stamp + 1 in
        let e : StampedEntry M = stamped_entry s (Take w wire.wire) in
        let n = kept.counter_is in
        let port = port_to-is net ok v i vertex lt in
        let at : get_or (came_to net v takens' w) (length (taken_in entries w)) 0 ≡ wire.stamp =
        ap (λ k. get_or (stamps_of (takens' k)) (length (taken_in entries w)) 0) port
        ∙ ap (λ l. get_or l (length (taken_in entries w)) 0) (ap (λ l. stamps_of l) more.here ∙ map-append (λ x. x.stamp) (takens i) (wire ∷ []))
        ∙ get_or_push (stamps_of (takens i)) wire.stamp 0 (length (taken_in entries w)) (length-map (takens i) (λ x. x.stamp) ∙ sym count) in
        record {
          stamped = stamped_push (came_to net v takens') entries e
              (stamped_more (came_to net v takens) (came_to net v takens') entries (came_same i wire takens takens' entries lt has more none) kept.stamped)
              (let is : s ≡ suc (max (counter_of entries) (get_or (came_to net v takens' w) (length (taken_in entries w)) 0)) = omega (arith, n, at) in is);
          counter_is = counter_behind 0 entries e;
          put_are = same_puts puts entries e (λ u. refl) kept.put_are;
        };
    asides = λ i counter wire puts takens takens' entries lt kept has none more. record {
      stamped = stamped_more (came_to net v takens) (came_to net v takens') entries (came_same i wire takens takens' entries lt has more none) kept.stamped;
      counter_is = kept.counter_is;
      put_are = kept.put_are;
    };
    pulses = λ p counter puts takens entries kept.
        let e : StampedEntry M = stamped_entry (counter + 1) (Pulse p) in
        let n = kept.counter_is in
        record {
          stamped = stamped_push (came_to net v takens) entries e kept.stamped (let is : counter + 1 ≡ suc (counter_of entries) = omega (arith, n) in is);
          counter_is = counter_behind 0 entries e;
          put_are = same_puts puts entries e (λ u. refl) kept.put_are;
        };
  }
