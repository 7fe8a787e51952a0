-- The words of the program in texts.
use Rattle.std.specs.Prelude.{◌≡◌, ℕ, List, [], codes}
use Rattle.interference.specs.Net.{Net, IsVertex}
use Rattle.number_rows.specs.Row.{numbered}
use Rattle.program_texts.specs.Named.{NamedTexts}
use Rattle.silent.specs.Knowing.{Known}

-- ` silent N`
abbrev pub found_text : Known → List ℕ
found_text s = numbered (codes " silent ") s.number

-- what the program is for: each node has found 0
abbrev pub HaveFound : Net → (ℕ → Known) → Type 0
HaveFound net states = (v : ℕ) → IsVertex net v → (states v).number ≡ 0

abbrev pub silent_words : NamedTexts Known
silent_words = record {
  name = codes "silent";
  found = found_text;
  more = λ net v s. [];
  Solves = HaveFound;
}
