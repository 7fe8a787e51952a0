-- The texts of a program that begin with its name, edition 3, from the words of its results.
use Rattle.std.specs.Prelude.{ℕ, true, List, [], ◌∷◌, ◌++◌, codes, if◌then◌else◌, nat_eq}
use Rattle.interference.specs.Net.{Net, count_of, greatest_degree_of}
use Rattle.node_api.specs.Program.{Program, last_pulse_on}
use Rattle.number_rows.specs.Feeds.{HasNoFeed}
use Rattle.number_rows.specs.Names.{IsName}
use Rattle.number_rows.specs.Row.{row, numbered}
use Rattle.program_texts.specs.Texts.{ProgramTexts}

-- What such a program says, with a space before each word.
pub record NamedTexts (S : Type 0) : Type 1 where
  pub name : List ℕ
  -- what a node has found
  pub found : S → List ℕ
  -- what its result has behind that, by network, vertex and state
  pub more : Net → ℕ → S → List ℕ
  -- what the program is for, of the last states of all vertices
  pub Solves : Net → (ℕ → S) → Type 0

-- The name is a word, and no word has a line feed.
pub record AreNamed {S : Type 0} (words : NamedTexts S) : Type 0 where
  pub name : IsName words.name
  pub found : (s : S) → HasNoFeed (words.found s)
  pub more : (net : Net) (v : ℕ) (s : S) → HasNoFeed (words.more net v s)

-- `rounds 3 NAME N DELTA R`
abbrev pub head_line : {S M E : Type 0} → Program S M E → List ℕ → Net → List ℕ
head_line program name net = codes "rounds 3 " ++ name ++ codes " "
    ++ row (count_of net ∷ greatest_degree_of net ∷ last_pulse_on program net ∷ [])

-- `V` and what its node has found
abbrev pub found_line : List ℕ → ℕ → List ℕ
found_line found v = numbered (codes "") v ++ found ++ codes "\n"

-- all texts: no phases, and the line of each vertex at the last pulse
abbrev pub texts_of : {S M E : Type 0} → Program S M E → NamedTexts S → ProgramTexts S
texts_of program words = record {
  name = words.name;
  is_named = true;
  head = head_line program words.name;
  phase = λ net p. [];
  lines = λ net p v s. if nat_eq p (last_pulse_on program net) then found_line (words.found s) v else [];
  result = λ net v s. words.found s ++ words.more net v s;
  Solves = words.Solves;
}
