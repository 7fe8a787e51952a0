-- The texts of a program whose nodes have states S, and what they are to say.
use Rattle.std.specs.Prelude.{ℕ, Bool, List}
use Rattle.interference.specs.Net.{Net}
use Rattle.number_rows.specs.Feeds.{AreLines, HasNoFeed, IsLine}
use Rattle.number_rows.specs.Names.{IsName}

pub record ProgramTexts (S : Type 0) : Type 1 where
  -- the program's name
  pub name : List ℕ
  -- whether its rounds and its transcripts begin with its name, in edition 3; the colouring has editions of its own
  pub is_named : Bool
  -- the first line of its rounds on a network, its end included
  pub head : Net → List ℕ
  -- the words behind `pulse P` in its rounds, with a space before each
  pub phase : Net → ℕ → List ℕ
  -- what the rounds say of a node after a pulse, whole lines: by network, pulse, vertex and state
  pub lines : Net → ℕ → ℕ → S → List ℕ
  -- the result of a node that has made its last pulse, with a space before each word: by network, vertex and state
  pub result : Net → ℕ → S → List ℕ
  -- what the program is for, of the last states of all vertices: its result in the words of the subject
  pub Solves : Net → (ℕ → S) → Type 0

-- What is said above of the texts: so each line that a program writes is whole, and a result stays within its line.
pub record AreTexts {S : Type 0} (texts : ProgramTexts S) : Type 0 where
  pub name : IsName texts.name
  pub head : (net : Net) → IsLine (texts.head net)
  pub phase : (net : Net) (p : ℕ) → HasNoFeed (texts.phase net p)
  pub lines : (net : Net) (p v : ℕ) (s : S) → AreLines (texts.lines net p v s)
  pub result : (net : Net) (v : ℕ) (s : S) → HasNoFeed (texts.result net v s)
