-- Laws of `Named.antt`, which an `impl` cites.
use Rattle.std.specs.Prelude.{ℕ, Bool, true, false, List, [], ◌∷◌, ◌++◌, codes, if◌then◌else◌, nat_eq}
use Rattle.std.proofs.Common.{inl, refl}
use Rattle.interference.specs.Net.{count_of, greatest_degree_of}
use Rattle.node_api.specs.Program.{Program, last_pulse_on}
use Rattle.number_rows.specs.Feeds.{AreLines, IsLine}
use Rattle.number_rows.specs.Row.{row, numbered}
use Rattle.number_rows.proofs.Feeds.{are-lines, line-behind, line-end, line-row, no-feed-append, no-feed-decimal}
use Rattle.number_rows.proofs.Feeds.{no-feed-name}
use Rattle.program_texts.specs.Texts.{AreTexts}
use Rattle.program_texts.specs.Named.{NamedTexts, AreNamed, found_line, texts_of}

-- ---- these are texts
pub lines-if : (b : Bool) (text : List ℕ) → IsLine text → AreLines (if b then text else [])
lines-if true text is = are-lines text is
lines-if false text is = inl refl

pub named_are_texts : {S M E : Type 0} (program : Program S M E) (words : NamedTexts S) → AreNamed words
    → AreTexts (texts_of program words)
named_are_texts program words are = record {
  name = are.name;
  head = λ net.
      let numbers : List ℕ = count_of net ∷ greatest_degree_of net ∷ last_pulse_on program net ∷ [] in
      line-behind (codes "rounds 3 " ++ words.name ++ codes " ") (row numbers)
      (no-feed-append (codes "rounds 3 " ++ words.name) (codes " ")
      (no-feed-append (codes "rounds 3 ") words.name refl (no-feed-name words.name are.name)) refl)
      (line-row numbers);
  phase = λ net p. refl;
  lines = λ net p v s. lines-if (nat_eq p (last_pulse_on program net)) (found_line (words.found s) v)
      (line-behind (numbered (codes "") v ++ words.found s) (codes "\n")
      (no-feed-append (numbered (codes "") v) (words.found s) (no-feed-decimal v) (are.found s)) line-end);
  result = λ net v s. no-feed-append (words.found s) (words.more net v s) (are.found s) (are.more net v s);
}
