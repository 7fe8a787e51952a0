-- What one call on an end, or on the node alone, leaves of the stamps of a node with its ends.
use Rattle.std.proofs.Common.{◌≡◌, ℕ, zero, suc, ◌+◌, ◌^◌, ◌<◌, ◌≤◌, ◌==◌, true, false, if◌then◌else◌, List, [], ◌∷◌, ◌++◌, length, map, set, get_or, refl, sym}
use Rattle.std.proofs.Common.{ap, ap₂, ◌∙◌, subst, arith, ⊎_elim, Some, None, Ok, Err}
use Rattle.std.specs.Prelude.{All, Bool, Option, Result, IsTrue, MatchResult, max}
use Rattle.std.proofs.lemmas.Bool.{cases_Bool, cases_eq, eqb-true}
use Rattle.std.proofs.lemmas.List.{length-map}
use Rattle.interference.specs.Net.{Net, IsNetwork, IsVertex, degree_of, neighbour_of, port_to}
use Rattle.node_api.specs.Program.{Program, last_pulse_on}
use Rattle.wires.specs.declared.stamped.Stamped.{Stamped}
use Rattle.wires.specs.StampedWires.{last_stamp, stamped, wires_of}
use Rattle.wires.specs.declared.wire.Wire.{Wire}
use Rattle.alpha_core.specs.View.{Node}
use Rattle.alpha_core.specs.Alpha.{pulse, put_done, reaction}
use Rattle.alpha_core.specs.Program.{start_node}
use Rattle.wires.proofs.StampedWires.{last_more}
use Rattle.entries.specs.declared.entry.Entry.{Entry}
use Rattle.entries.specs.declared.entry.Entry.TheVariants.{Pulse, Put, Take}
use Rattle.entries.specs.Rows.{stamped_entry, bare_of}
use Rattle.stamps.specs.Keeps.{HasTaken, KeepsStamps, TakesAreByPorts}
use Rattle.entries.specs.declared.rows.StampedEntry.{StampedEntry}
use Rattle.stamps.specs.Stamps.{taken_in}
use Rattle.stamps.proofs.Keeps.{keeps}
use Rattle.wired_nodes.specs.declared.aside.Aside.{Aside}
use Rattle.wired_nodes.specs.declared.aside.WhyAside.TheVariants.{StampFull}
use Rattle.wired_nodes.specs.HasStamps.{HasStamps, IsFullAside}
use Rattle.wired_nodes.specs.Node.{by_port, reacted_to}
use Rattle.wired_nodes.specs.Written.{IsTranscript, IsWritten, Leads, takes_in}
use Rattle.wired_nodes.proofs.Lists.{none_at, one_more_stamped}
use Rattle.wired_nodes.proofs.StampedEntries.{wires_taken}

-- what follows from what a result that is no refusal says
value_says : {A B C : Type 0} {P : A → Type 0} (r : Result A B) → MatchResult r P (λ _. ⊥) → ((x : A) → P x → C) → C
value_says (Ok x) is more = more x is
value_says (Err e) is more = absurd is

-- a list by port, without stamps
wires_at : {Y M : Type 0} (taken : Y → List (Stamped M)) (ys : List Y) (i : ℕ)
    → by_port (map (λ y. wires_of (taken y)) ys) i ≡ wires_of (by_port (map taken ys) i)
wires_at taken [] i = refl
wires_at taken (y ∷ ys) zero = refl
wires_at taken (y ∷ ys) (suc i) = wires_at taken ys i

-- a list without wires has no stamps
none_stamped : {M : Type 0} (xs : List (Stamped M)) → wires_of xs ≡ [] → xs ≡ []
none_stamped [] e = refl
none_stamped (x ∷ xs) e = absurd cc

pub none_stamped_at : {A M : Type 0} (f : A → List (Stamped M)) (xs : List A) → All (λ x. wires_of (f x) ≡ []) xs → (i : ℕ) → [] ≡ by_port (map f xs) i
none_stamped_at f xs all = none_at f xs (λ k d lt. none_stamped (f (get_or xs k d)) (all k d lt))

module _ {S M E : Type 0} (program : Program S M E) (net : Net) (v : ℕ) where
  -- each take is from a neighbour
  none_from : (entries : List (Entry M)) (from to : Node S M) → Leads program net v entries from to → (w : ℕ) → (port_to net v w < degree_of net v → ⊥)
      → takes_in entries w ≡ []
  none_from [] from to is w none = refl
  none_from (Pulse p ∷ entries) from to is w none =
      value_says (pulse program.next (last_pulse_on program net) from) is.1.1 (λ node more. none_from entries node to more w none)
  none_from (Put u x ∷ entries) from to is w none =
      none_from entries record from { view = put_done from.view (port_to net v u) } to is.1.1 w none
  none_from (Take u x ∷ entries) from to is w none = ⊎_elim
      (λ yes. absurd (none (subst (λ k. port_to net v k < degree_of net v) (eqb-true u w yes) is.0)))
      (λ no. rw no (value_says (reaction (last_pulse_on program net) from.view (port_to net v u) x) is.1
      (λ view more. none_from entries record from { view = view } to more w none)))
      (cases_Bool (u == w))

  module _ {Y : Type 0} (taken : Y → List (Stamped M)) (ys : List Y) (node : Node S M) (puts : ℕ → List (Wire M))
      (es : List (StampedEntry M)) (is : IsWritten program net v node puts (by_port (map (λ y. wires_of (taken y)) ys)) (bare_of es)) where
    -- the entries took as many wires as the ends
    counts : (i : ℕ) → i < degree_of net v → length (taken_in es (neighbour_of net v i)) ≡ length (by_port (map taken ys) i)
    counts i lt =
        let w = neighbour_of net v i in
        let wires : wires_of (taken_in es w) ≡ wires_of (by_port (map taken ys) i) = wires_taken es w ∙ is.takes_are i lt ∙ wires_at taken ys i in
        sym (length-map (taken_in es w) (λ x. x.wire)) ∙ ap (λ l. length l) wires ∙ length-map (by_port (map taken ys) i) (λ x. x.wire)

    has_taken_all : HasTaken net v (by_port (map taken ys)) es
    has_taken_all i lt = let n = counts i lt in omega (arith, n)

    by_ports : TakesAreByPorts net v es
    by_ports w none =
        let wires : wires_of (taken_in es w) ≡ [] = wires_taken es w ∙ none_from (bare_of es) (start_node program net v) node is.run w none in
        sym (length-map (taken_in es w) (λ x. x.wire)) ∙ ap (λ l. length l) wires

module _ {M : Type 0} (net : Net) (v : ℕ) where
  -- an entry is written down, or there is none
  next_stamps : (t : Bool) (counter counter' : ℕ) (puts puts' takens takens' : ℕ → List (Stamped M)) (es es' : List (StampedEntry M))
      (e : StampedEntry M) → es' ≡ (if t then es ++ (e ∷ []) else es) → HasStamps net v t counter puts takens es
      → (IsTrue t → KeepsStamps net v counter puts takens es → KeepsStamps net v counter' puts' takens' (es ++ (e ∷ [])))
      → ((i : ℕ) → last_stamp (puts' i) ≤ counter') → HasStamps net v t counter' puts' takens' es'
  next_stamps true counter counter' puts puts' takens takens' es es' e es_are h more below = record {
    keeps = λ yes. subst (λ l. KeepsStamps net v counter' puts' takens' l) (sym es_are) (more yes (h.keeps yes));
    below = below;
  }
  next_stamps false counter counter' puts puts' takens takens' es es' e es_are h more below = record { keeps = λ yes. absurd cc; below = below }

  -- nothing is put, taken or written down at the start
  pub has_at_start : (t : Bool) (counter : ℕ) (puts takens : ℕ → List (Stamped M)) (es : List (StampedEntry M)) → counter ≡ 0
      → ((i : ℕ) → [] ≡ puts i) → es ≡ [] → HasStamps net v t counter puts takens es
  has_at_start t counter puts takens es at_zero none_put none =
      subst (λ c. HasStamps net v t c puts takens es) (sym at_zero)
      (subst (λ l. HasStamps net v t 0 puts takens l) (sym none) record {
        keeps = λ yes. record {
          stamped = λ before e after is. absurd (no_split before e after is);
          counter_is = refl;
          put_are = λ i lt. none_put i;
        };
        below = λ i. let e = ap (λ l. last_stamp l) (none_put i) in omega (arith, e);
      })
    where
      no_split : (before : List (StampedEntry M)) (e : StampedEntry M) (after : List (StampedEntry M)) → [] ≡ before ++ (e ∷ after) → ⊥
      no_split [] e after is = cc
      no_split (x ∷ before) e after is = cc

module _ {S M E X Y : Type 0} (program : Program S M E) (net : Net) (put : X → List (Stamped M)) (taken : Y → List (Stamped M)) (v : ℕ) (t : Bool) where
  abbrev Has : ℕ → List X → List Y → List (StampedEntry M) → Type 0
  Has counter xs ys es = HasStamps net v t counter (by_port (map put xs)) (by_port (map taken ys)) es

  -- what it wrote down, without stamps
  abbrev Wrote : Node S M → List X → List Y → Option (Aside M) → List (StampedEntry M) → Type 0
  Wrote node xs ys aside es =
      IsTranscript program net v t node (by_port (map (λ x. wires_of (put x)) xs)) (by_port (reacted_to aside (map (λ y. wires_of (taken y)) ys)))
      (bare_of es)

  module _ (ok : IsNetwork net) (vertex : IsVertex net v) where
    -- a wire was taken and set aside
    pub has_aside : (node : Node S M) (counter : ℕ) (xs : List X) (ys : List Y) (aside : Option (Aside M)) (i : ℕ) (x y : Y) (item : Stamped M)
        (es : List (StampedEntry M)) → length ys ≡ degree_of net v → i < degree_of net v → aside ≡ None → x ≡ get_or ys i x
        → taken y ≡ taken x ++ (item ∷ []) → Wrote node xs ys aside es → Has counter xs ys es → Has counter xs (set ys i y) es
    has_aside node counter xs ys aside i x y item es count lt going is more wrote h =
        let within : i < length ys = omega arith in
        let wrote' : Wrote node xs ys None es = subst (λ a. Wrote node xs ys a es) going wrote in
        let grown = one_more_stamped taken ys i x y item within is more in
        record {
          keeps = λ yes.
              let written = wrote'.written yes in
              let has = has_taken_all program net v taken ys node (by_port (map (λ x. wires_of (put x)) xs)) es written in
              let by = by_ports program net v taken ys node (by_port (map (λ x. wires_of (put x)) xs)) es written in
              (keeps net ok v vertex).asides i counter item (by_port (map put xs)) (by_port (map taken ys)) (by_port (map taken (set ys i y))) es lt
              (h.keeps yes) has by grown;
          below = h.below;
        }

    -- a wire was taken, and the node reacted
    pub has_taken : (node : Node S M) (counter counter' k n : ℕ) (xs : List X) (ys : List Y) (aside : Option (Aside M)) (i : ℕ) (x y : Y) (item : Stamped M)
        (es es' : List (StampedEntry M)) → length ys ≡ degree_of net v → i < degree_of net v → aside ≡ None
        → x ≡ get_or ys i x → taken y ≡ taken x ++ (item ∷ []) → n ≡ neighbour_of net v i → counter' ≡ max counter item.stamp + 1 → k ≡ counter'
        → es' ≡ (if t then es ++ (stamped_entry counter' (Take n item.wire) ∷ []) else es)
        → Wrote node xs ys aside es → Has counter xs ys es → Has k xs (set ys i y) es'
    has_taken node counter counter' k n xs ys aside i x y item es es' count lt going is more neighbour next moved es_are wrote h =
        let within : i < length ys = omega arith in
        let s = max counter item.stamp + 1 in
        let e : StampedEntry M = stamped_entry s (Take (neighbour_of net v i) item.wire) in
        let wrote' : Wrote node xs ys None es = subst (λ a. Wrote node xs ys a es) going wrote in
        let grown = one_more_stamped taken ys i x y item within is more in
        let es_more : es' ≡ (if t then es ++ (e ∷ []) else es) =
        es_are ∙ ap₂ (λ c k. if t then es ++ (stamped_entry c (Take k item.wire) ∷ []) else es) next neighbour in
        subst (λ c. Has c xs (set ys i y) es') (sym (moved ∙ next))
        (next_stamps net v t counter s (by_port (map put xs)) (by_port (map put xs)) (by_port (map taken ys)) (by_port (map taken (set ys i y))) es es'
        e es_more h
        (λ yes kept.
        let written = wrote'.written yes in
        let kept' : KeepsStamps net v counter (by_port (map put xs)) (by_port (map taken ys)) es = h.keeps yes in
        let has = has_taken_all program net v taken ys node (by_port (map (λ x. wires_of (put x)) xs)) es written in
        let by = by_ports program net v taken ys node (by_port (map (λ x. wires_of (put x)) xs)) es written in
        let all = counts program net v taken ys node (by_port (map (λ x. wires_of (put x)) xs)) es written i lt in
        (keeps net ok v vertex).takes i counter item (by_port (map put xs)) (by_port (map taken ys)) (by_port (map taken (set ys i y))) es lt kept' has all by
        grown)
        (λ j. let le = h.below j in omega (arith, le)))

    -- the oldest wire of an out-list was put
    pub has_put : (counter counter' k n : ℕ) (xs : List X) (ys : List Y) (i : ℕ) (x y : X) (w : Wire M)
        (es es' : List (StampedEntry M)) → length xs ≡ degree_of net v → i < degree_of net v
        → x ≡ get_or xs i x → put y ≡ put x ++ (stamped counter' w ∷ []) → n ≡ neighbour_of net v i → counter' ≡ counter + 1 → k ≡ counter'
        → es' ≡ (if t then es ++ (stamped_entry counter' (Put n w) ∷ []) else es) → Has counter xs ys es → Has k (set xs i y) ys es'
    has_put counter counter' k n xs ys i x y w es es' count lt is more neighbour next moved es_are h =
        let within : i < length xs = omega arith in
        let s = counter + 1 in
        let e : StampedEntry M = stamped_entry s (Put (neighbour_of net v i) w) in
        let more' : put y ≡ put x ++ (stamped s w ∷ []) = more ∙ ap (λ c. put x ++ (stamped c w ∷ [])) next in
        let grown = one_more_stamped put xs i x y (stamped s w) within is more' in
        let es_more : es' ≡ (if t then es ++ (e ∷ []) else es) =
        es_are ∙ ap₂ (λ c k. if t then es ++ (stamped_entry c (Put k w) ∷ []) else es) next neighbour in
        subst (λ c. Has c (set xs i y) ys es') (sym (moved ∙ next))
        (next_stamps net v t counter s (by_port (map put xs)) (by_port (map put (set xs i y))) (by_port (map taken ys)) (by_port (map taken ys)) es es'
        e es_more h
        (λ yes kept. (keeps net ok v vertex).puts i counter w (by_port (map put xs)) (by_port (map put (set xs i y))) (by_port (map taken ys)) es lt kept grown)
        (λ j. ⊎_elim
        (λ here.
        let last : last_stamp (by_port (map put (set xs i y)) j) ≡ s =
        ap (λ k. last_stamp (by_port (map put (set xs i y)) k)) here ∙ ap (λ l. last_stamp l) grown.here
        ∙ last_more 0 (by_port (map put xs) i) (stamped s w) in
        omega (arith, last))
        (λ ne. let same = ap (λ l. last_stamp l) (grown.others j ne) in let le = h.below j in omega (arith, same, le))
        (cases_eq j i)))

    -- a pulse was made
    pub has_pulsed : (counter counter' k p : ℕ) (xs : List X) (ys : List Y) (es es' : List (StampedEntry M))
        → counter' ≡ counter + 1 → k ≡ counter' → es' ≡ (if t then es ++ (stamped_entry counter' (Pulse p) ∷ []) else es)
        → Has counter xs ys es → Has k xs ys es'
    has_pulsed counter counter' k p xs ys es es' next moved es_are h =
        let s = counter + 1 in
        let e : StampedEntry M = stamped_entry s (Pulse p) in
        let es_more : es' ≡ (if t then es ++ (e ∷ []) else es) = es_are ∙ ap (λ c. if t then es ++ (stamped_entry c (Pulse p) ∷ []) else es) next in
        subst (λ c. Has c xs ys es') (sym (moved ∙ next))
        (next_stamps net v t counter s (by_port (map put xs)) (by_port (map put xs)) (by_port (map taken ys)) (by_port (map taken ys)) es es'
        e es_more h
        (λ yes kept. (keeps net ok v vertex).pulses p counter (by_port (map put xs)) (by_port (map taken ys)) es kept)
        (λ j. let le = h.below j in omega (arith, le)))

-- the last stamp of a list that got one wire more is that of the wire
pub last_at : {Y M : Type 0} (taken : Y → List (Stamped M)) (ys : List Y) (i : ℕ) (x y : Y) (w : Stamped M) → i < length ys → x ≡ get_or ys i x
    → taken y ≡ taken x ++ (w ∷ []) → last_stamp (by_port (map taken (set ys i y)) i) ≡ w.stamp
last_at taken ys i x y w within is more =
    ap (λ l. last_stamp l) (one_more_stamped taken ys i x y w within is more).here ∙ last_more 0 (by_port (map taken ys) i) w

-- the wire that was taken last, and was set aside, came with the stamp for which it was, which the counter couldn't pass
pub full_aside : {Y M : Type 0} (taken : Y → List (Stamped M)) (ys : List Y) (i : ℕ) (x y : Y) (w : Stamped M) (aside : Aside M) → i < length ys
    → x ≡ get_or ys i x → taken y ≡ taken x ++ (w ∷ []) → aside.port ≡ i → (counter : ℕ)
    → ((s : ℕ) → aside.why ≡ StampFull s → (w.stamp ≡ s) × (2 ^ 64 ≤ max counter s + 1))
    → (a : Aside M) → Some aside ≡ Some a → IsFullAside counter (by_port (map taken (set ys i y))) a
full_aside taken ys i x y w aside within is more port counter why a given =
    subst (λ b. IsFullAside counter (by_port (map taken (set ys i y))) b) (some_same given)
    (λ s e. (ap (λ k. last_stamp (by_port (map taken (set ys i y)) k)) port ∙ last_at taken ys i x y w within is more ∙ (why s e).0, (why s e).1))
  where
    some_same : {A : Type 0} {x y : A} → Some x ≡ Some y → x ≡ y
    some_same e = cc
