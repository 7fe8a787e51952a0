-- What one call on an end, or on the node alone, leaves of what a node with its ends keeps.
use Rattle.std.proofs.Common.{◌≡◌, ℕ, ◌<◌, false, List, [], ◌∷◌, ◌++◌, length, map, drop, set, get_or, sym, ap, ◌∙◌, subst, arith}
use Rattle.std.proofs.Common.{Some, None, Ok, Err, slice_get}
use Rattle.std.specs.Prelude.{Option, Result, IsTrue}
use Rattle.std.proofs.lemmas.List.{length-map, length-set}
use Rattle.interference.specs.Net.{Net, IsNetwork, IsVertex, degree_of, neighbour_of}
use Rattle.node_api.specs.Program.{Program, last_pulse_on}
use Rattle.node_api.specs.Laws.{IsProgram}
use Rattle.wires.specs.declared.wire.Wire.{Wire}
use Rattle.alpha_core.specs.declared.refused.AlphaRefused.{AlphaRefused}
use Rattle.alpha_core.specs.View.{Node, port_at, can_pulse}
use Rattle.alpha_core.specs.Table.{is_due}
use Rattle.alpha_core.specs.Alpha.{reaction, pulse, put_done}
use Rattle.link_rule.specs.Sent.{IsLegal}
use Rattle.alpha_laws.specs.Kept.{NodeKept}
use Rattle.alpha_laws.proofs.NodeLaws.{puts_keep, takes_keep, pulses_keep}
use Rattle.alpha_laws.proofs.Runs.{runs}
use Rattle.wired_nodes.specs.declared.aside.Aside.{Aside}
use Rattle.wired_nodes.specs.declared.aside.WhyAside.TheVariants.{Refused, StampFull}
use Rattle.wired_nodes.specs.Node.{by_port, reacted_to, all_but_last, IsAside}
use Rattle.wired_nodes.proofs.Lists.{get_map, one_more, set_aside, but_last-more, first_is}
use Rattle.wired_nodes.proofs.Kept.{not_due}

module _ {S M R X Y : Type 0} (program : Program S M R) (net : Net) (put : X → List (Wire M)) (taken : Y → List (Wire M)) where
  abbrev Keeps : ℕ → Node S M → List X → List Y → Option (Aside M) → Type 0
  Keeps v node xs ys aside = NodeKept program net v node (by_port (map put xs)) (by_port (reacted_to aside (map taken ys)))

  -- a wire was taken, and the node reacted
  pub took_one : (v : ℕ) (node new : Node S M) (xs : List X) (ys : List Y) (aside : Option (Aside M)) (i : ℕ) (x y : Y) (w : Wire M) (last : ℕ)
      → last ≡ last_pulse_on program net → length ys ≡ degree_of net v → i < degree_of net v → aside ≡ None → x ≡ get_or ys i x
      → taken y ≡ taken x ++ (w ∷ []) → IsLegal program net (neighbour_of net v i) v (taken y) → reaction last node.view i w ≡ Ok new.view
      → new.state ≡ node.state → Keeps v node xs ys aside → Keeps v new xs (set ys i y) aside
  took_one v node new xs ys aside i x y w last last_is count lt going is more legal reacts same kept =
      let within : i < length ys = omega arith in
      let sent = by_port (map put xs) in
      let ts = by_port (map taken ys) in
      let ts' = by_port (map taken (set ys i y)) in
      let kept' : Keeps v node xs ys None = subst (λ a. Keeps v node xs ys a) going kept in
      let here : taken y ≡ ts i ++ (w ∷ []) = more ∙ ap (λ l. l ++ (w ∷ [])) (get_map taken ys i x [] within is) in
      let after = takes_keep program net v i node sent ts ts' w new.view kept' lt (subst (λ l. IsLegal program net (neighbour_of net v i) v l) here legal)
      (subst (λ l. reaction l node.view i w ≡ Ok new.view) last_is reacts) (one_more taken ys i x y w within is more) in
      subst (λ a. Keeps v new xs (set ys i y) a) (sym going)
      (subst (λ s. NodeKept program net v record { state = s; view = new.view } sent ts') (sym same) after)

  -- a wire was taken and refused
  pub took_refused : (v : ℕ) (node new : Node S M) (xs : List X) (ys : List Y) (before : Option (Aside M)) (i : ℕ) (x y : Y) (w : Wire M) (aside : Aside M)
      → aside.port ≡ i → length ys ≡ degree_of net v → i < degree_of net v → before ≡ None → x ≡ get_or ys i x
      → taken y ≡ taken x ++ (w ∷ []) → new ≡ node → Keeps v node xs ys before → Keeps v new xs (set ys i y) (Some aside)
  took_refused v node new xs ys before i x y w aside port count lt going is more same kept =
      let within : i < length ys = omega arith in
      let kept' : Keeps v node xs ys None = subst (λ a. Keeps v node xs ys a) going kept in
      subst (λ n. Keeps v n xs (set ys i y) (Some aside)) (sym same)
      (subst (λ l. NodeKept program net v node (by_port (map put xs)) (by_port l)) (sym (set_aside taken ys i x y w aside port within is more)) kept')

  -- the oldest wire of an out-list was put
  pub put_one : (v : ℕ) (node new : Node S M) (xs : List X) (ys : List Y) (aside : Option (Aside M)) (i : ℕ) (x y : X) (w : Wire M)
      → length xs ≡ degree_of net v → i < degree_of net v → x ≡ get_or xs i x → put y ≡ put x ++ (w ∷ []) → slice_get (port_at node.view i).out 0 ≡ Some w
      → new.view ≡ put_done node.view i → new.state ≡ node.state → Keeps v node xs ys aside → Keeps v new (set xs i y) ys aside
  put_one v node new xs ys aside i x y w count lt is more oldest view same kept =
      let within : i < length xs = omega arith in
      let ts = by_port (reacted_to aside (map taken ys)) in
      let sent' = by_port (map put (set xs i y)) in
      let after = puts_keep program net v i node (by_port (map put xs)) sent' ts w (drop 1 (port_at node.view i).out) kept lt
      (first_is (port_at node.view i).out w oldest) (one_more put xs i x y w within is more) in
      subst (λ s. NodeKept program net v record { state = s; view = new.view } sent' ts) (sym same)
      (subst (λ u. NodeKept program net v record { state = node.state; view = u } sent' ts) (sym view) after)

-- what a node knows of a wire that it set aside, and of one that it refused
module _ {S M R Y : Type 0} (program : Program S M R) (net : Net) (taken : Y → List (Wire M)) where
  pub aside_is : (node new : Node S M) (ys : List Y) (i : ℕ) (x y : Y) (w : Wire M) (aside : Aside M) → aside.port ≡ i → aside.wire ≡ w → i < length ys
      → x ≡ get_or ys i x → taken y ≡ taken x ++ (w ∷ []) → new ≡ node
      → (aside.why ≡ Refused → is_due (last_pulse_on program net) node.view.pulse node.view.said (port_at node.view i) w ≡ false)
      → (a : Aside M) → Some aside ≡ Some a → IsAside (last_pulse_on program net) new.view (map taken (set ys i y)) a
  aside_is node new ys i x y w aside port wire within is more same due a given =
      let lists = map taken (set ys i y) in
      let within' : i < length (map taken ys) = omega (arith, length-map ys taken) in
      let here : by_port lists i ≡ by_port (map taken ys) i ++ (w ∷ []) = (one_more taken ys i x y w within is more).here in
      let ends : by_port lists i ≡ all_but_last (by_port lists i) ++ (w ∷ []) =
      here ∙ ap (λ l. l ++ (w ∷ [])) (sym (ap all_but_last here ∙ but_last-more (by_port (map taken ys) i) w)) in
      let P : ℕ → Wire M → Node S M → Type 0 =
      λ k u n. IsAside (last_pulse_on program net) n.view lists record { port = k; wire = u; why = aside.why } in
      subst (λ b. IsAside (last_pulse_on program net) new.view lists b) (some_same given) (subst (λ k. P k aside.wire new) (sym port) (subst (λ u. P i u
      new) (sym wire) (subst (λ n. P i w n) (sym same) record {
        port = omega (arith, length-map (set ys i y) taken, length-set ys i y);
        came_last = ends;
        refused = due;
      })))
    where
      some_same : {A : Type 0} {x y : A} → Some x ≡ Some y → x ≡ y
      some_same e = cc

  pub refused_is : (node new : Node S M) (ys : List Y) (i : ℕ) (x y : Y) (w : Wire M) (aside : Aside M) (e : AlphaRefused) (last : ℕ)
      → last ≡ last_pulse_on program net → aside.port ≡ i → aside.wire ≡ w → i < length ys → x ≡ get_or ys i x
      → taken y ≡ taken x ++ (w ∷ []) → new ≡ node → reaction last node.view i w ≡ Err e
      → (a : Aside M) → Some aside ≡ Some a → IsAside (last_pulse_on program net) new.view (map taken (set ys i y)) a
  refused_is node new ys i x y w aside e last last_is port wire within is more same refused =
      aside_is node new ys i x y w aside port wire within is more same
      (λ why. not_due (last_pulse_on program net) node.view i w e (subst (λ l. reaction l node.view i w ≡ Err e) last_is refused))

ok_same : {A B : Type 0} (r : Result A B) (x y : A) → r ≡ Ok x → r ≡ Ok y → x ≡ y
ok_same r x y a b = let e = sym a ∙ b in cc

-- a node that has set no wire aside has none
pub none_and_some : {A : Type 0} (o : Option A) (a : A) → o ≡ None → o ≡ Some a → ⊥
none_and_some o a none some = let is = sym none ∙ some in cc

-- why a wire was set aside: refused, or for its stamp
pub refused_not_full : (s : ℕ) → Refused ≡ StampFull s → ⊥
refused_not_full s e = cc

pub full_not_refused : (s : ℕ) → StampFull s ≡ Refused → ⊥
full_not_refused s e = cc

pub full_stamp : (s s' : ℕ) → StampFull s ≡ StampFull s' → s ≡ s'
full_stamp s s' e = cc

not_both : {A B : Type 0} (r : Result A B) (x : A) (e : B) → r ≡ Ok x → r ≡ Err e → ⊥
not_both r x e a b = let is = sym a ∙ b in cc

-- a pulse was made
module _ {S M R : Type 0} (program : Program S M R) (net : Net) (laws : IsProgram program) (ok : IsNetwork net) where
  pub pulsed : (v : ℕ) (node new : Node S M) (sent taken : ℕ → List (Wire M)) (last : ℕ) → last ≡ last_pulse_on program net → IsVertex net v
      → IsTrue (can_pulse last node.view) → pulse program.next last node ≡ Ok new → NodeKept program net v node sent taken
      → NodeKept program net v new sent taken
  pulsed v node new sent taken last last_is vertex can made kept =
      let next = pulses_keep program net (runs program laws net ok) v node sent taken kept vertex (subst (λ l. IsTrue (can_pulse l node.view)) last_is can) in
      let made' = subst (λ l. pulse program.next l node ≡ Ok new) last_is made in
      subst (λ n. NodeKept program net v n sent taken) (ok_same _ next.0 new next.1 made') next.2

  pub never_refused : (v : ℕ) (node : Node S M) (sent taken : ℕ → List (Wire M)) (last : ℕ) (why : R) → last ≡ last_pulse_on program net → IsVertex net v
      → IsTrue (can_pulse last node.view) → pulse program.next last node ≡ Err why → NodeKept program net v node sent taken → ⊥
  never_refused v node sent taken last why last_is vertex can refused kept =
      let next = pulses_keep program net (runs program laws net ok) v node sent taken kept vertex (subst (λ l. IsTrue (can_pulse l node.view)) last_is can) in
      let refused' = subst (λ l. pulse program.next l node ≡ Err why) last_is refused in
      not_both _ next.0 why next.1 refused'
