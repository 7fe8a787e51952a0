-- That what a node took from each link is legal, as a wire is taken. The link says that its list is legal with the wire;
-- the lists of the other ports stay; and of the port of a wire that was set aside the list without it is as before. At
-- the start nothing was taken, which is legal.
use Rattle.std.proofs.Common.{◌≡◌, ℕ, ◌<◌, List, [], ◌∷◌, ◌++◌, length, map, set, get_or, sym, ap, ◌∙◌, subst, arith}
use Rattle.std.proofs.Common.{Some, None, refl, ⊎_elim}
use Rattle.std.specs.Prelude.{Option}
use Rattle.std.proofs.lemmas.Bool.{cases_eq}
use Rattle.std.proofs.lemmas.List.{length-append}
use Rattle.interference.specs.Net.{Net, degree_of, neighbour_of}
use Rattle.node_api.specs.Program.{Program}
use Rattle.wires.specs.declared.wire.Wire.{Wire}
use Rattle.wires.specs.declared.wire.Wire.TheVariants.{Close}
use Rattle.wires.specs.Streams.{Legal, sent_pulses, stream}
use Rattle.wires.proofs.Wires.{begins_from}
use Rattle.link_rule.specs.Sent.{IsLegal}
use Rattle.alpha_laws.specs.Stands.{TakesAreLegal}
use Rattle.wired_nodes.specs.declared.aside.Aside.{Aside}
use Rattle.wired_nodes.specs.Node.{by_port, reacted_to}
use Rattle.wired_nodes.proofs.Lists.{get_map, one_more, set_aside}

-- the lists that a node took stay legal
module _ {S M R Y : Type 0} (program : Program S M R) (net : Net) (taken : Y → List (Wire M)) where
  abbrev Legals : ℕ → List Y → Option (Aside M) → Type 0
  Legals v ys aside = TakesAreLegal program net v (by_port (reacted_to aside (map taken ys)))

  pub took_legal : (v : ℕ) (ys : List Y) (aside : Option (Aside M)) (i : ℕ) (x y : Y) (w : Wire M)
      → length ys ≡ degree_of net v → i < degree_of net v → aside ≡ None → x ≡ get_or ys i x
      → taken y ≡ taken x ++ (w ∷ []) → IsLegal program net (neighbour_of net v i) v (taken y) → Legals v ys aside → Legals v (set ys i y) aside
  took_legal v ys aside i x y w count lt going is more legal old =
      let within : i < length ys = omega arith in
      let ts = by_port (map taken ys) in
      let ts' = by_port (map taken (set ys i y)) in
      let old' : Legals v ys None = subst (λ a. Legals v ys a) going old in
      let grew = one_more taken ys i x y w within is more in
      let here : taken y ≡ ts' i = more ∙ ap (λ l. l ++ (w ∷ [])) (get_map taken ys i x [] within is) ∙ sym grew.here in
      subst (λ a. Legals v (set ys i y) a) (sym going) (λ k lt'. ⊎_elim
      (λ same. subst (λ n. IsLegal program net (neighbour_of net v n) v (ts' n)) (sym same)
      (subst (λ l. IsLegal program net (neighbour_of net v i) v l) here legal))
      (λ ne. subst (λ l. IsLegal program net (neighbour_of net v k) v l) (grew.others k ne) (old' k lt'))
      (cases_eq k i))

  pub aside_legal : (v : ℕ) (ys : List Y) (before : Option (Aside M)) (i : ℕ) (x y : Y) (w : Wire M) (aside : Aside M)
      → aside.port ≡ i → length ys ≡ degree_of net v → i < degree_of net v → before ≡ None → x ≡ get_or ys i x
      → taken y ≡ taken x ++ (w ∷ []) → Legals v ys before → Legals v (set ys i y) (Some aside)
  aside_legal v ys before i x y w aside port count lt going is more old =
      let within : i < length ys = omega arith in
      let old' : Legals v ys None = subst (λ a. Legals v ys a) going old in
      subst (λ l. TakesAreLegal program net v (by_port l)) (sym (set_aside taken ys i x y w aside port within is more)) old'

nothing_before : {M : Type 0} (xs ys : List (Wire M)) → [] ≡ xs ++ (Close ∷ ys) → ⊥
nothing_before {M} xs ys is = absurd (omega (arith, ap (λ (l : List (Wire M)). length l) is, length-append xs (Close ∷ ys)))

-- nothing is legal
pub none_legal : {M : Type 0} (last : ℕ) (own other : ℕ → Option M) → Legal last own other []
none_legal last own other = record {
  wires = begins_from [] (stream own last) (stream own last) refl;
  acks = begins_from [] (sent_pulses other last) (sent_pulses other last) refl;
  close = λ xs ys is. absurd (nothing_before xs ys is);
}
