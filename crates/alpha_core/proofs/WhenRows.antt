-- What a port has of this pulse and of the next, against the rows that have it.
use Rattle.std.proofs.Common.{◌≡◌, ℕ, ◌<◌, Bool, true, false, not, ◌&&◌, ◌||◌, Option, Some, None, List, length, set, refl, ap, ◌∙◌}
use Rattle.std.specs.Prelude.{IsTrue, ◌↔◌, is_some, nat_eq}
use Rattle.node_api.specs.Boxes.{at_port}
use Rattle.alpha_core.specs.declared.marks.Marks.{Marks}
use Rattle.alpha_core.specs.declared.when.When.{When}
use Rattle.alpha_core.specs.declared.when.When.TheVariants.{Now, Next}
use Rattle.wires.specs.declared.wire.Wire.{Wire}
use Rattle.alpha_core.specs.View.{Port, is_paid, port_in, safes_here}
use Rattle.alpha_core.specs.Rows.{AreRows, Taken, marks_at, port_of, ports_of, rows_of}
use Rattle.alpha_core.specs.When.{mark_safe, payload_taken, safes_before, slots_of, with_payload, with_safe, with_slots}
use Rattle.alpha_core.proofs.PortRows.{marks-put, row-put}

-- which payload the safes of a port ask for
not-empty : {M : Type 0} (o : Option M) (b : Bool) → IsTrue b ↔ (o ≡ None) → not b ≡ is_some o
not-empty None b h = ap (λ x. not x) (h.1 refl)
not-empty (Some x) true h = let e = h.0 refl in absurd cc
not-empty (Some x) false h = refl

pub paid-when : {M : Type 0} (when : When) (port : Port M) (b : Bool) → safes_before when ≡ safes_here port
    → IsTrue b ↔ (payload_taken when port ≡ None) → not b ≡ is_paid port
paid-when {M} when port b next empty =
    not-empty (payload_taken when port) b empty ∙ by when
    ∙ ap (λ n. (is_some port.present && nat_eq n 0) || (is_some port.early && nat_eq n 1)) next
  where
    first : (x y : Bool) → x ≡ ((x && true) || (y && false))
    first true true = refl
    first true false = refl
    first false true = refl
    first false false = refl

    second : (x y : Bool) → y ≡ ((x && false) || (y && true))
    second true true = refl
    second true false = refl
    second false true = refl
    second false false = refl

    by : (w : When) → is_some (payload_taken w port) ≡
        ((is_some port.present && nat_eq (safes_before w) 0) || (is_some port.early && nat_eq (safes_before w) 1))
    by Now = first (is_some port.present) (is_some port.early)
    by Next = second (is_some port.present) (is_some port.early)

module _ {M : Type 0} {p : ℕ} {odd : Bool} {marks : List Marks} (taken : Taken M) {outs : List (List (Wire M))} {ports : List (Port M)} {i : ℕ}
    (are : AreRows p odd (rows_of marks taken outs)) (is : ports_of (rows_of marks taken outs) ≡ ports) (lt : i < length ports) where
  pub slots-length : (when : When) → length (slots_of when taken) ≡ length marks
  slots-length Now = are.present
  slots-length Next = are.early

  -- the payload of one port is put
  pub payload-put : (when : When) (x : M)
      → ports_of (rows_of marks (with_slots when (set (slots_of when taken) i (Some x)) taken) outs) ≡ set ports i (with_payload when x (port_in ports i))
  payload-put Now x =
      row-put (λ o p. record p { present = o }) (rows_of marks taken outs) _ taken.present (Some x) None are is lt are.present refl (λ j. refl) (λ j. refl)
  payload-put Next x =
      row-put (λ o p. record p { early = o }) (rows_of marks taken outs) _ taken.early (Some x) None are is lt are.early refl (λ j. refl) (λ j. refl)

  -- the safe of one port is taken
  pub safe-put : (when : When)
      → ports_of (rows_of (set marks i (mark_safe when (marks_at marks i))) taken outs) ≡ set ports i (with_safe when (port_in ports i))
  safe-put Now = marks-put (λ (m : Marks). mark_safe Now m) are is lt
  safe-put Next = marks-put (λ (m : Marks). mark_safe Next m) are is lt

pub payload-of : {M : Type 0} (when : When) (marks : List Marks) (taken : Taken M) (outs : List (List (Wire M))) (i : ℕ)
    → payload_taken when (port_of (rows_of marks taken outs) i) ≡ at_port (slots_of when taken) i
payload-of Now marks taken outs i = refl
payload-of Next marks taken outs i = refl
