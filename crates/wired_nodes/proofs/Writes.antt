-- What one call on an end, or on the node alone, leaves of the entries of a node with its ends.
use Rattle.std.proofs.Common.{◌≡◌, ℕ, ◌<◌, List, [], ◌∷◌, ◌++◌, length, map, set, get_or, if◌then◌else◌, sym, subst, arith, Some, None, Ok, slice_get}
use Rattle.std.specs.Prelude.{Bool, Option, IsTrue}
use Rattle.interference.specs.Net.{Net, IsNetwork, IsVertex, degree_of, neighbour_of}
use Rattle.node_api.specs.Program.{Program, last_pulse_on}
use Rattle.wires.specs.declared.wire.Wire.{Wire}
use Rattle.alpha_core.specs.View.{Node, port_at, can_pulse}
use Rattle.alpha_core.specs.Alpha.{reaction, pulse, put_done}
use Rattle.entries.specs.declared.entry.Entry.{Entry}
use Rattle.entries.specs.declared.entry.Entry.TheVariants.{Pulse, Put, Take}
use Rattle.wired_nodes.specs.declared.aside.Aside.{Aside}
use Rattle.wired_nodes.specs.Node.{by_port, reacted_to}
use Rattle.wired_nodes.specs.Written.{IsTranscript}
use Rattle.wired_nodes.proofs.Lists.{one_more, set_aside}
use Rattle.wired_nodes.proofs.Written.{wrote_put, wrote_take, wrote_pulse, next_transcript}

module _ {S M E X Y : Type 0} (program : Program S M E) (net : Net) (put : X → List (Wire M)) (taken : Y → List (Wire M)) (v : ℕ) (t : Bool) where
  abbrev pub Writes : Node S M → List X → List Y → Option (Aside M) → List (Entry M) → Type 0
  Writes node xs ys aside entries = IsTranscript program net v t node (by_port (map put xs)) (by_port (reacted_to aside (map taken ys))) entries

  -- a wire was taken and refused
  pub wrote_refused : (node new : Node S M) (xs : List X) (ys : List Y) (before : Option (Aside M)) (i : ℕ) (x y : Y) (w : Wire M) (aside : Aside M)
      (es : List (Entry M)) → aside.port ≡ i → length ys ≡ degree_of net v → i < degree_of net v → before ≡ None → x ≡ get_or ys i x
      → taken y ≡ taken x ++ (w ∷ []) → new ≡ node → Writes node xs ys before es → Writes new xs (set ys i y) (Some aside) es
  wrote_refused node new xs ys before i x y w aside es port count lt going is more same writes =
      let within : i < length ys = omega arith in
      let writes' : Writes node xs ys None es = subst (λ a. Writes node xs ys a es) going writes in
      subst (λ n. Writes n xs (set ys i y) (Some aside) es) (sym same)
      (subst (λ l. IsTranscript program net v t node (by_port (map put xs)) (by_port l) es)
      (sym (set_aside taken ys i x y w aside port within is more)) writes')

  module _ (ok : IsNetwork net) (vertex : IsVertex net v) where
    -- a wire was taken, and the node reacted
    pub wrote_taken : (node new : Node S M) (xs : List X) (ys : List Y) (aside : Option (Aside M)) (i : ℕ) (x y : Y) (w : Wire M) (last n : ℕ)
        (es es' : List (Entry M)) → last ≡ last_pulse_on program net → length ys ≡ degree_of net v → i < degree_of net v → aside ≡ None
        → x ≡ get_or ys i x → taken y ≡ taken x ++ (w ∷ []) → reaction last node.view i w ≡ Ok new.view → new.state ≡ node.state
        → n ≡ neighbour_of net v i → es' ≡ (if t then es ++ (Take n w ∷ []) else es) → Writes node xs ys aside es → Writes new xs (set ys i y) aside es'
    wrote_taken node new xs ys aside i x y w last n es es' last_is count lt going is more reacts same neighbour wrote writes =
        let within : i < length ys = omega arith in
        let writes' : Writes node xs ys None es = subst (λ a. Writes node xs ys a es) going writes in
        let sent = by_port (map put xs) in
        let old = by_port (map taken ys) in
        let after = by_port (map taken (set ys i y)) in
        let wrote' = subst (λ k. es' ≡ (if t then es ++ (Take k w ∷ []) else es)) neighbour wrote in
        subst (λ a. Writes new xs (set ys i y) a es') (sym going)
        (next_transcript program net v t node new sent sent old after es es' (Take (neighbour_of net v i) w) wrote' writes'
        (wrote_take program net v ok vertex i w node new sent old after es lt (subst (λ l. reaction l node.view i w ≡ Ok new.view) last_is reacts) same
        (one_more taken ys i x y w within is more)))

    -- the oldest wire of an out-list was put
    pub wrote_one_put : (node new : Node S M) (xs : List X) (ys : List Y) (aside : Option (Aside M)) (i : ℕ) (x y : X) (w : Wire M) (n : ℕ)
        (es es' : List (Entry M)) → length xs ≡ degree_of net v → i < degree_of net v → x ≡ get_or xs i x → put y ≡ put x ++ (w ∷ [])
        → slice_get (port_at node.view i).out 0 ≡ Some w → new.view ≡ put_done node.view i → new.state ≡ node.state
        → n ≡ neighbour_of net v i → es' ≡ (if t then es ++ (Put n w ∷ []) else es) → Writes node xs ys aside es → Writes new (set xs i y) ys aside es'
    wrote_one_put node new xs ys aside i x y w n es es' count lt is more oldest view same neighbour wrote writes =
        let within : i < length xs = omega arith in
        let ts = by_port (reacted_to aside (map taken ys)) in
        let wrote' = subst (λ k. es' ≡ (if t then es ++ (Put k w ∷ []) else es)) neighbour wrote in
        next_transcript program net v t node new (by_port (map put xs)) (by_port (map put (set xs i y))) ts ts es es' (Put (neighbour_of net v i) w)
        wrote' writes
        (wrote_put program net v ok vertex i w node new (by_port (map put xs)) (by_port (map put (set xs i y))) ts es lt oldest view same
        (one_more put xs i x y w within is more))

module _ {S M E : Type 0} (program : Program S M E) (net : Net) (v : ℕ) (t : Bool) where
  -- a pulse was made
  pub wrote_pulsed : (node new : Node S M) (puts takens : ℕ → List (Wire M)) (last p : ℕ) (es es' : List (Entry M)) → last ≡ last_pulse_on program net
      → IsTrue (can_pulse last node.view) → pulse program.next last node ≡ Ok new → p ≡ new.view.pulse
      → es' ≡ (if t then es ++ (Pulse p ∷ []) else es) → IsTranscript program net v t node puts takens es → IsTranscript program net v t new puts takens es'
  wrote_pulsed node new puts takens last p es es' last_is can made number wrote writes =
      next_transcript program net v t node new puts puts takens takens es es' (Pulse p) wrote writes
      (wrote_pulse program net v p node new puts takens es (subst (λ l. IsTrue (can_pulse l node.view)) last_is can)
      (subst (λ l. pulse program.next l node ≡ Ok new) last_is made) number)
