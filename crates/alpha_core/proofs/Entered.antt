-- The ports of a node that has entered a pulse, one way for each way in which the code goes over them.
use Rattle.std.proofs.Common.{◌≡◌, ℕ, suc, zero, ◌<◌, ◌≤◌, true, not, Option, Some, None, List, [], ◌∷◌, map, length, get_or, replicate}
use Rattle.std.proofs.Common.{refl, sym, ap, ◌∙◌, arith, subst}
use Rattle.std.specs.Prelude.{IsSome}
use Rattle.std.proofs.lemmas.Bool.{and_parts, not-true}
use Rattle.std.proofs.lemmas.List.{get_or-map, get_or-replicate, length-map, same_lists}
use Rattle.node_api.specs.Boxes.{at_port, nothing, FilledPorts}
use Rattle.node_api.proofs.Slots.{at_port-nothing, some_or_none}
use Rattle.wires.specs.declared.wire.Wire.TheVariants.{Payload, Close}
use Rattle.alpha_core.specs.View.{Port, none_waits}
use Rattle.alpha_core.specs.Alpha.{emit, enters, enter_all}
use Rattle.alpha_core.proofs.Changed.{ChangedAt, ChangedUpTo, changed-all}
use Rattle.alpha_core.proofs.PortLists.{enter_all-at, enter_all-length, enters-last, enters-quiet, enters-some}

-- a port at which a node sends at pulse p, before the last
abbrev pub emitted : {M : Type 0} → ℕ → Option M → Port M → Port M
emitted p None port = port
emitted p (Some x) port = emit (Payload p x) (record port { waits = true })

pub quiet-at : {M : Type 0} (ports : List (Port M)) (k : ℕ) (d : Port M) → none_waits ports ≡ true → k < length ports → not (get_or ports k d).waits ≡ true
quiet-at [] k d h lt = absurd (omega arith)
quiet-at (port ∷ ports) zero d h lt = (and_parts _ _ h).0
quiet-at (port ∷ ports) (suc k) d h lt = quiet-at ports k d (and_parts _ _ h).1 (omega arith)

-- What all ports are once a node has entered a pulse: at the last one, if it sends nothing, if it sends one payload everywhere, and if it sends at some
-- ports.
module _ {M : Type 0} (last p : ℕ) (old : List (Port M)) where
  pub all-closed : (out : List (Option M)) → p ≡ last → none_waits old ≡ true → map (λ port. emit Close port) old ≡ enter_all last p out old
  all-closed out e none =
      same_lists _ _ (length-map old _ ∙ sym (enter_all-length last p out old)) (λ k d h.
      let lt : k < length old = omega (arith, length-map old (λ port. emit Close port)) in
      get_or-map (λ port. emit Close port) old k d d lt
      ∙ ap (λ b. emit Close (record (get_or old k d) { waits = b })) (not-true (get_or old k d).waits (quiet-at old k d none lt))
      ∙ enters-last last p (get_or old k d) (get_or out k None) e
      ∙ sym (enter_all-at last p out old k d lt))

  pub none-sent : (n : ℕ) → (p ≡ last → ⊥) → none_waits old ≡ true → old ≡ enter_all last p (nothing n) old
  none-sent n ne none =
      same_lists _ _ (sym (enter_all-length last p (nothing n) old)) (λ k d lt.
      sym (enters-quiet last p (get_or old k d) ne (quiet-at old k d none lt))
      ∙ ap (λ o. enters last p o (get_or old k d)) (sym (at_port-nothing n k))
      ∙ sym (enter_all-at last p (nothing n) old k d lt))

  pub all-sent : (x : M) (new : List (Port M)) (n : ℕ) → (p ≡ last → ⊥) → ChangedUpTo (λ k port. emitted p (Some x) port) old new n → length old ≤ n
      → new ≡ enter_all last p (replicate (length old) (Some x)) old
  all-sent x new n ne changed all =
      let out = replicate (length old) (Some x) in
      changed-all (λ k port. emitted p (Some x) port) old new _ n changed all (enter_all-length last p out old) (λ k d lt.
      enter_all-at last p out old k d lt
      ∙ sym (enters-some last p (get_or old k d) (get_or out k None) x ne (get_or-replicate (length old) k (Some x) None lt)))

  pub some-sent : (out : List (Option M)) (places : List ℕ) (new : List (Port M)) → (p ≡ last → ⊥) → none_waits old ≡ true → FilledPorts out places
      → ChangedAt (λ k port. emitted p (at_port out k) port) old new places → new ≡ enter_all last p out old
  some-sent out places new ne none filled changed =
      same_lists _ _ (changed.size ∙ sym (enter_all-length last p out old)) (λ k d h.
      let lt : k < length old = omega (arith, changed.size) in
      by k d lt (at_port out k) refl ∙ sym (enter_all-at last p out old k d lt))
    where
      by : (k : ℕ) (d : Port M) → k < length old → (o : Option M) → at_port out k ≡ o → get_or new k d ≡ enters last p (get_or out k None) (get_or old k d)
      by k d lt None e =
          changed.left k d (λ has. some_or_none (at_port out k) ((filled.filled k).0 has) e)
          ∙ sym (enters-quiet last p (get_or old k d) ne (quiet-at old k d none lt)) ∙ ap (λ o. enters last p o (get_or old k d)) (sym e)
      by k d lt (Some x) e =
          changed.done k d ((filled.filled k).1 (subst IsSome (sym e) refl)) lt ∙ ap (λ o. emitted p o (get_or old k d)) e
          ∙ enters-some last p (get_or old k d) (get_or out k None) x ne e
