use Rattle.std.proofs.Common.{◌≡◌, ◌++◌, ◌∙◌, ℕ, List, ap, codes, false, sym, true}
use Rattle.std.proofs.lemmas.Slice.Eq.{bytes_eq-Decides}
use Rattle.play_inputs.specs.declared.replays.ReplayFault.TheVariants.{WrongProgram}
use Rattle.play_answers.proofs.replaying.check_program.Goals as goal

-- the name isn't the one that was asked for, and the words have it
pub returns-clause-fault : goal.returns-clause-fault
returns-clause-fault c =
    let named : List ℕ = c.in-Some.named.now in
    let words = c.extend_from_slice-2.new.self in
    record {
      named = named;
      is_named = sym c.in-Some.ensures;
      another = λ same.
          let equal = (bytes_eq-Decides named c.as_bytes.result.now).1 (same ∙ sym c.as_bytes.ensures.value) in
          let wrong : true ≡ false = sym equal ∙ sym c.eq.ensures ∙ c.if-eq.false in cc;
      words = words;
      says = c.in_ok-extend_from_slice-2.ensures.items
          ∙ ap (λ (t : List ℕ). t ++ named) (c.in_ok-extend_from_slice.ensures.items ∙ ap (λ (t : List ℕ). t ++ codes ": ") c.new-words.ensures.items);
      is_reported = ap (λ (n : ℕ). WrongProgram n words) c.first_line_in.ensures;
    }
