-- Rows that are made, and rows that are advanced, have one length, which is a degree.
use Rattle.std.proofs.Common.{◌≡◌, ℕ, suc, ◌+◌, ◌≤◌, Bool, false, not, None, List, [], map, length, replicate, sym, ap, ◌∙◌, arith}
use Rattle.std.proofs.lemmas.List.{length-map, length-replicate}
use Rattle.interference.specs.declared.limits.TheConstants.{MAX_DEGREE}
use Rattle.node_api.specs.Boxes.{nothing}
use Rattle.alpha_core.specs.declared.marks.Marks.{Marks}
use Rattle.wires.specs.declared.wire.Wire.{Wire}
use Rattle.alpha_core.specs.Rows.{AreRows, Rows, Taken, advanced, is_odd, no_marks, rows_of}

module _ {M : Type 0} where
  pub are-made : (n : ℕ) {p : ℕ} (marks : List Marks) (taken : Taken M) (outs : List (List (Wire M))) → n ≤ MAX_DEGREE → p ≡ 0
      → marks ≡ replicate n no_marks → taken ≡ record { odd = false; present = nothing n; early = nothing n } → outs ≡ replicate n []
      → AreRows p taken.odd (rows_of marks taken outs)
  are-made n {p} marks taken outs few start a b c =
      let many : length marks ≡ n = ap length a ∙ length-replicate n no_marks in
      record {
        parity = ap (λ t. t.odd) b ∙ ap is_odd (sym start);
        few = omega (arith, few, many);
        present = ap (λ t. length t.present) b ∙ length-replicate n None ∙ sym many;
        early = ap (λ t. length t.early) b ∙ length-replicate n None ∙ sym many;
        outs = ap length c ∙ length-replicate n [] ∙ sym many;
      }

  pub are-advanced : {rows : Rows M} {p q : ℕ} {odd : Bool} (marks : List Marks) (taken : Taken M) (n : ℕ) → AreRows p odd rows → q ≡ p + 1
      → marks ≡ map (λ m. advanced m) rows.marks → taken ≡ record { odd = not odd; present = rows.early; early = nothing n } → n ≡ length rows.present
      → AreRows q taken.odd (rows_of marks taken rows.outs)
  are-advanced {rows} {p} {q} {odd} marks taken n are next a b long =
      let one_more : q ≡ suc p = omega (arith, next) in
      let many : length marks ≡ length rows.marks = ap length a ∙ length-map rows.marks (λ m. advanced m) in
      record {
        parity = ap (λ t. t.odd) b ∙ ap not are.parity ∙ ap is_odd (sym one_more);
        few = omega (arith, are.few, many);
        present = ap (λ t. length t.present) b ∙ are.early ∙ sym many;
        early = ap (λ t. length t.early) b ∙ length-replicate n None ∙ long ∙ are.present ∙ sym many;
        outs = are.outs ∙ sym many;
      }
