use Rattle.std.proofs.Common.{◌≡◌, ◌++◌, ◌∷◌, [], ◌∙◌, IfOk, List, ℕ, ap, ap₂, append_assoc, codes, subst, sym}
use Rattle.std.specs.Fmt.{decimal}
use Rattle.transcripts.proofs.writing.push_named_line.Goals as goal

-- three texts one behind the other are the line
pub returns : goal.returns
returns c =
    let old : List ℕ = c.args.text.now.items in
    let name : List ℕ = c.args.name.now in
    let start : List ℕ = codes "transcript 3 " in
    let number : List ℕ = decimal c.args.nodes in
    let end : List ℕ = 32 ∷ (number ++ 10 ∷ []) in
    let named = c.in_ok-extend_from_slice-2.ensures.items
    ∙ ap₂ (λ (a b : List ℕ). a ++ b) c.in_ok-extend_from_slice.ensures.items c.as_bytes.ensures.value in
    let spaced = append_assoc (name ++ codes " ") number (10 ∷ []) ∙ append_assoc name (codes " ") (number ++ 10 ∷ []) in
    record {
      text = subst (λ (t : List ℕ). IfOk c.push_header.result (λ x. c.push_header.new.text.items ≡ t))
          (ap (λ (t : List ℕ). t ++ end) named ∙ append_assoc (old ++ start) name end ∙ append_assoc old start (name ++ end)
          ∙ ap (λ (t : List ℕ). old ++ (start ++ t)) (sym spaced))
          c.push_header.ensures.text;
    }
