-- Nodes whose ends have met: none has refused a wire, so they simulate the synchronous run.
use Rattle.std.proofs.Common.{◌≡◌, ℕ, ◌<◌, true, List, [], ◌∷◌, ◌++◌, length, drop, refl, sym, ap, ◌∙◌, subst, append_assoc, Some, None, ⊎_elim, arith}
use Rattle.std.specs.Prelude.{Option, IsOk}
use Rattle.std.proofs.lemmas.Bool.{cases_eq}
use Rattle.std.proofs.lemmas.List.{append-nil, get_or-set_same, get_or-set_other}
use Rattle.interference.specs.Net.{Net, IsNetwork, IsVertex, degree_of, neighbour_of, back_port_of}
use Rattle.node_api.specs.Program.{Program, last_pulse_on}
use Rattle.node_api.specs.Laws.{IsProgram}
use Rattle.wires.specs.declared.wire.Wire.{Wire}
use Rattle.alpha_core.specs.declared.refused.AlphaRefused.{AlphaRefused}
use Rattle.alpha_core.specs.View.{View, Node, port_at}
use Rattle.alpha_core.specs.Table.{is_due, refusal_of}
use Rattle.alpha_core.specs.Alpha.{reaction, reacts, unless_refused}
use Rattle.alpha_core.proofs.Cells.{taken-due}
use Rattle.alpha_laws.specs.Kept.{NodeKept, AllKept}
use Rattle.alpha_laws.specs.Simulates.{Simulates, taken_over}
use Rattle.alpha_laws.proofs.Across.{over}
use Rattle.alpha_laws.proofs.Runs.{runs}
use Rattle.alpha_laws.proofs.Claims.{simulates}
use Rattle.wired_nodes.specs.declared.aside.Aside.{Aside}
use Rattle.wired_nodes.specs.Node.{by_port, reacted_to, all_but_last}
use Rattle.outcomes.specs.Laws.{EndsHaveMet}

drop_rest : {A : Type 0} (xs ys zs : List A) → xs ++ ys ≡ zs → xs ++ drop (length xs) zs ≡ zs
drop_rest [] ys zs e = refl
drop_rest (x ∷ xs) ys [] e = absurd cc
drop_rest (x ∷ xs) ys (z ∷ zs) e =
    let head : x ≡ z = cc in
    let tail : xs ++ ys ≡ zs = cc in
    ap (λ l. x ∷ l) (drop_rest xs ys zs tail) ∙ ap (λ y. y ∷ zs) head

-- a wire that isn't refused is due
ok_due : {M : Type 0} (last : ℕ) (view : View M) (i : ℕ) (w : Wire M) → IsOk (reaction last view i w)
    → is_due last view.pulse view.said (port_at view i) w ≡ true
ok_due last view i w good =
    taken-due last view.pulse view.said (port_at view i) w
    (not_refused (refusal_of last view.pulse view.said (port_at view i) w) (reacts last view i w) good)
  where
    not_refused : {A : Type 0} (o : Option AlphaRefused) (x : A) → IsOk (unless_refused o x) → o ≡ None
    not_refused None x good = refl
    not_refused (Some e) x good = absurd cc

-- a node has reacted to a beginning of what it took
pub reacted_begins : {M : Type 0} (aside : Option (Aside M)) (takens : List (List (Wire M)))
    → ((a : Aside M) → aside ≡ Some a → (a.port < length takens) × (by_port takens a.port ≡ all_but_last (by_port takens a.port) ++ (a.wire ∷ [])))
    → (i : ℕ) → (rest : List (Wire M)) × (by_port (reacted_to aside takens) i ++ rest ≡ by_port takens i)
reacted_begins None takens is i = ([], append-nil (by_port takens i))
reacted_begins (Some a) takens is i =
    let at = is a refl in
    ⊎_elim
    (λ here. (
      a.wire ∷ [],
      ap (λ k. by_port (reacted_to (Some a) takens) k ++ (a.wire ∷ [])) here
          ∙ ap (λ l. l ++ (a.wire ∷ [])) (get_or-set_same takens a.port (all_but_last (by_port takens a.port)) [] at.0)
          ∙ sym at.1 ∙ ap (λ k. by_port takens k) (sym here),
    ))
    (λ ne. ([], append-nil _ ∙ get_or-set_other takens a.port i (all_but_last (by_port takens a.port)) [] ne))
    (cases_eq i a.port)

module _ {S M E : Type 0} (program : Program S M E) (laws : IsProgram program) (net : Net) (ok : IsNetwork net) (nodes : ℕ → Node S M)
    (asides : ℕ → Option (Aside M)) (puts takens : ℕ → List (List (Wire M))) (held : ℕ → ℕ → List (Wire M))
    (met : EndsHaveMet program net nodes asides puts takens held) where
  abbrev sent : ℕ → ℕ → List (Wire M)
  sent v i = by_port (puts v) i

  abbrev taken : ℕ → ℕ → List (Wire M)
  taken v i = by_port (takens v) i

  abbrev reacted : ℕ → ℕ → List (Wire M)
  reacted v i = by_port (reacted_to (asides v) (takens v)) i

  begun : (v : ℕ) → IsVertex net v → (i : ℕ) → (rest : List (Wire M)) × (reacted v i ++ rest ≡ taken v i)
  begun v vertex i = reacted_begins (asides v) (takens v) (λ a e. ((met.refused v vertex a e).port, (met.refused v vertex a e).came_last)) i

  -- without the wires that were set aside, the lists of each link still split
  abbrev rest_of : ℕ → ℕ → List (Wire M)
  rest_of v i = drop (length (taken_over net reacted v i)) (sent v i)

  kept : AllKept program net nodes sent reacted rest_of
  kept = record {
    each = λ v vertex. met.each v vertex;
    splits = λ v i vertex lt.
        let w = neighbour_of net v i in
        let j = back_port_of net v i in
        let front = begun w (ok.vertices v i vertex lt) j in
        drop_rest (reacted w j) (front.0 ++ held v i) (sent v i)
        (sym (append_assoc (reacted w j) front.0 (held v i)) ∙ ap (λ l. l ++ held v i) front.1 ∙ sym (met.splits v i vertex lt));
  }

  -- a wire that was set aside is the next of its link, and so isn't refused
  none_aside : (v : ℕ) → IsVertex net v → asides v ≡ None
  none_aside v vertex = case (asides v) (λ a e. refused a e)
    where
      case : (o : Option (Aside M)) → ((a : Aside M) → o ≡ Some a → ⊥) → o ≡ None
      case None bad = refl
      case (Some a) bad = absurd (bad a refl)

      refused : (a : Aside M) → asides v ≡ Some a → ⊥
      refused a e =
          let is = met.refused v vertex a e in
          let i = a.port in
          let lt : i < degree_of net v = omega (arith, is.port, met.ports v vertex) in
          let w = neighbour_of net v i in
          let j = back_port_of net v i in
          let reacted_is : reacted v i ≡ all_but_last (taken v i) =
          ap (λ o. by_port (reacted_to o (takens v)) i) e ∙ get_or-set_same (takens v) i (all_but_last (taken v i)) [] is.port in
          let comes : sent w j ≡ reacted v i ++ (a.wire ∷ held w j) =
          met.splits w j (ok.vertices v i vertex lt) (ok.symmetric v i vertex lt)
          ∙ ap (λ l. l ++ held w j) (over net ok taken v i vertex lt ∙ is.came_last)
          ∙ ap (λ l. (l ++ (a.wire ∷ [])) ++ held w j) (sym reacted_is)
          ∙ append_assoc (reacted v i) (a.wire ∷ []) (held w j) in
          let good = (simulates ok (runs program laws net ok) kept).no_wire_refused v i vertex lt a.wire (held w j) comes in
          let due = ok_due (last_pulse_on program net) (nodes v).view i a.wire good in
          let not_due = is.refused (met.by_refusal v vertex a e) in
          cc

  all_kept : AllKept program net nodes sent taken held
  all_kept = record {
    each = λ v vertex. subst (λ o. NodeKept program net v (nodes v) (by_port (puts v)) (by_port (reacted_to o (takens v)))) (none_aside v vertex)
        (met.each v vertex);
    splits = λ v i vertex lt. sym (met.splits v i vertex lt);
  }

  pub met_simulate : ((v : ℕ) → IsVertex net v → asides v ≡ None) × Simulates program net nodes sent taken
  met_simulate = (none_aside, simulates ok (runs program laws net ok) all_kept)
