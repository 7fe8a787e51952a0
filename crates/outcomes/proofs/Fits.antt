-- No node that was gathered has come to its greatest stamp.
-- 1. Of nodes with all their entries, the counters and the stamps of the wires are bounded (`laws`), and so is the stamp of a
--    wire that was set aside: its neighbour put it (`all_fit`).
-- 2. Each node has such entries, written down or not (`none_full`).
use Rattle.std.proofs.Common.{◌≡◌, ℕ, ◌+◌, ◌-◌, ◌<◌, ◌≤◌, List, [], ◌∷◌, ◌++◌, length, take, map, refl, sym, ap, ◌∙◌, subst, arith, None, Some, slice_get}
use Rattle.std.specs.Prelude.{All, Bool, IsTrue, Option, max}
use Rattle.std.proofs.Props.{props}
use Rattle.std.proofs.Math.Logic.{∥∥₁_elim}
use Rattle.std.proofs.Math.Seq.{take-append_seam}
use Rattle.std.proofs.lemmas.List.{get_or_append_left, length-append}
use Rattle.std.proofs.lemmas.List.Elements.{All-head, All-map, All-tail}
use Rattle.std.proofs.lemmas.Option.{get_or_from_slice_get}
use Rattle.interference.specs.Net.{Net, IsVertex, degree_of, neighbour_of, back_port_of}
use Rattle.node_api.specs.Program.{Program}
use Rattle.wires.specs.declared.stamped.Stamped.{Stamped}
use Rattle.wires.specs.StampedWires.{last_from, last_stamp}
use Rattle.alpha_core.specs.View.{Alpha}
use Rattle.alpha_laws.specs.Counts.{events_of_run}
use Rattle.wired_nodes.specs.declared.aside.Aside.{Aside}
use Rattle.wired_nodes.specs.declared.aside.WhyAside.{WhyAside}
use Rattle.wired_nodes.specs.declared.aside.WhyAside.TheVariants.{Refused, StampFull}
use Rattle.wired_nodes.specs.HasStamps.{IsFullAside, aside_stamp, stamp_of_why}
use Rattle.wired_nodes.specs.Node.{by_port, reacted_to}
use Rattle.entries.specs.declared.rows.StampedEntry.{StampedEntry}
use Rattle.outcomes.specs.Fits.{AreWithin, HaveMetAside}
use Rattle.outcomes.specs.Outcome.{Outcome, entries_in, link_in, node_in}
use Rattle.outcomes.proofs.Asides.{reacted_begins}
use Rattle.outcomes.proofs.MetStamps.{are_within}
use Rattle.outcomes.proofs.Did.{DidAt, chosen, gathered_full}
use Rattle.outcomes.proofs.Linked.{AreGathered, here, split_is, taken_here, takens_at, takens_here}
use Rattle.port_rows.proofs.Rows.{length-nodes}
use Rattle.outcomes.proofs.Stamping.{counter_is, counters, keeps_at, splits_at}
use Rattle.outcomes.proofs.Wires.{aside_at, aside_is, as_many_ports, asides_at, came_at, came_by, sent_by, wrote_at}

module _ {M : Type 0} (most : ℕ) where
  last_within : (s : ℕ) (xs : List (Stamped M)) → s ≤ most → All (λ x. x.stamp ≤ most) xs → last_from s xs ≤ most
  last_within s [] le all = le
  last_within s (x ∷ xs) le all =
      last_within x.stamp xs (All-head (λ (y : Stamped M). y.stamp ≤ most) x xs all) (All-tail (λ (y : Stamped M). y.stamp ≤ most) x xs all)

  first_within : (xs ys : List (Stamped M)) → All (λ x. x.stamp ≤ most) (xs ++ ys) → All (λ x. x.stamp ≤ most) xs
  first_within xs ys all k d lt =
      subst (λ (x : Stamped M). x.stamp ≤ most) (get_or_append_left xs ys d k lt) (all k d (omega (arith, lt, length-append xs ys)))

module _ {S M E A X Y : Type 0} {program : Program S M E} {net : Net} {nodes : List A} {vertex : A → ℕ} {alpha : A → Alpha S M}
    {aside : A → Option (Aside M)} {counter : A → ℕ} {puts : A → List X} {put : X → List (Stamped M)} {takes : A → List Y} {taken : Y → List (Stamped M)}
    {entries : A → List (StampedEntry M)} {crossed : List (List Y)} {transcript : Bool} {outcome : Outcome S M}
    (are : AreGathered program net nodes vertex alpha aside counter puts put takes taken entries crossed transcript outcome) (on : IsTrue transcript)
    (full : (a : A) (x : Aside M) → aside a ≡ Some x → IsFullAside (counter a) (by_port (map taken (takes a))) x) where
  abbrev most : ℕ
  most = events_of_run program net

  met_aside : HaveMetAside program net (node_in program net outcome) (counters are) (λ v i. (link_in outcome v i).put) (λ v i. by_port (takens_at are v) i)
      (λ v i. (link_in outcome v i).held) (λ v i. by_port (reacted_to (asides_at are v) (came_at are v)) i) (entries_in outcome)
  met_aside = record {
    keeps = keeps_at are on;
    written = λ v is.
        let w = (wrote_at are v is).written on in
        record { run = w.run; puts_are = λ i lt. w.puts_are i lt ∙ sent_by are v i; takes_are = w.takes_are; pulses_are = w.pulses_are };
    begun = λ v i is lt.
        let reacted = by_port (reacted_to (asides_at are v) (came_at are v)) i in
        let front = reacted_begins (asides_at are v) (came_at are v) (λ a e. ((aside_at are v is a e).port, (aside_at are v is a e).came_last)) i in
        subst (λ l. take (length reacted) l ≡ reacted) (front.1 ∙ came_by are v i (by_port (takens_at are v) i) refl) (take-append_seam reacted front.0);
    splits = splits_at are;
  }

  within : AreWithin net most (counters are) (λ v i. (link_in outcome v i).put)
  within = are_within program are.laws net are.network _ _ _ _ _ _ _ met_aside

  -- what was taken was put
  taken_within : (v : ℕ) → IsVertex net v → (i : ℕ) → i < degree_of net v → last_stamp (by_port (takens_at are v) i) ≤ most
  taken_within v is i lt =
      let w = neighbour_of net v i in
      let j = back_port_of net v i in
      let vertex' = are.network.vertices v i is lt in
      let lt' = are.network.symmetric v i is lt in
      let h = link_in outcome w j in
      let all = subst (λ l. All (λ x. x.stamp ≤ most) l) (split_is are w j vertex' lt') (within.put w j vertex' lt') in
      subst (λ l. last_stamp l ≤ most) (sym (taken_here are v is i lt))
      (last_within most 0 h.taken (omega arith) (first_within most h.taken h.held all))

  aside_within : (v : ℕ) (is : IsVertex net v) (o : Option (Aside M)) → aside (here are v is).0 ≡ o → aside_stamp o ≤ most
  aside_within v is None e = omega arith
  aside_within v is (Some x) e = by_why x.why refl
    where
      by_why : (why : WhyAside) → x.why ≡ why → stamp_of_why x.why ≤ most
      by_why Refused same = subst (λ why. stamp_of_why why ≤ most) (sym same) (omega arith)
      by_why (StampFull s) same =
          let n = here are v is in
          let at = aside_at are v is x (sym (aside_is are v is) ∙ e) in
          let lt : x.port < degree_of net v = omega (arith, at.port, as_many_ports are v is) in
          let last : last_stamp (by_port (takens_at are v) x.port) ≡ s =
          ap (λ l. last_stamp (by_port l x.port)) (sym (takens_here are v is)) ∙ (full n.0 x e s same).0 in
          subst (λ why. stamp_of_why why ≤ most) (sym same) (subst (λ t. t ≤ most) last (taken_within v is x.port lt))

  fit : (v : ℕ) (is : IsVertex net v) → max (counter (here are v is).0) (aside_stamp (aside (here are v is).0)) ≤ most
  fit v is =
      let count = counter_is are v is in
      let low = within.counter v is in
      let came = aside_within v is (aside (here are v is).0) refl in
      omega (arith, count, low, came)

  pub all_fit : All (λ a. max (counter a) (aside_stamp (aside a)) ≤ most) nodes
  all_fit k d lt =
      let is : IsVertex net (k + 1) = (omega arith, omega (arith, lt, length-nodes net vertex nodes are.order)) in
      let n = here are (k + 1) is in
      let at : k + 1 - 1 ≡ k = omega arith in
      subst (λ a. max (counter a) (aside_stamp (aside a)) ≤ most)
      (sym (get_or_from_slice_get nodes k n.0 d (ap (λ i. slice_get nodes i) (sym at) ∙ n.1))) (fit (k + 1) is)

module _ {S M E A X Y : Type 0} {program : Program S M E} {net : Net} {nodes : List A} {vertex : A → ℕ} {alpha : A → Alpha S M}
    {aside : A → Option (Aside M)} {counter : A → ℕ} {puts : A → List X} {put : X → List (Stamped M)} {takes : A → List Y} {taken : Y → List (Stamped M)}
    {entries : A → List (StampedEntry M)} {crossed : List (List Y)} {transcript : Bool} {outcome : Outcome S M}
    (are : AreGathered program net nodes vertex alpha aside counter puts put takes taken entries crossed transcript outcome)
    (full : (a : A) (x : Aside M) → aside a ≡ Some x → IsFullAside (counter a) (by_port (map taken (takes a))) x) where
  abbrev Fits : A → Type 0
  Fits a = max (counter a) (aside_stamp (aside a)) ≤ events_of_run program net

  pub none_full : ((a : A) → ∥ DidAt are a ∥₁) → All Fits nodes
  none_full did k d lt = ∥∥₁_elim (chosen did nodes) (Prim.hlevel props) (λ ys.
      let all = all_fit (gathered_full are ys.0 ys.1) refl (λ y x e. full y.0 x e) in
      subst (λ l. All Fits l) ys.1 (All-map Fits (λ y. y.0) ys.0 all) k d lt)
