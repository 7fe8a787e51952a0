-- The words of the election in texts.
use Rattle.std.specs.Prelude.{ℕ, List, [], codes, if◌then◌else◌, nat_eq}
use Rattle.interference.specs.Net.{Net, IsVertex, id_of}
use Rattle.number_rows.specs.Row.{numbered}
use Rattle.program_texts.specs.Named.{NamedTexts, texts_of}
use Rattle.program_texts.specs.Texts.{ProgramTexts}
use Rattle.leader.specs.Component.{IsGreatestReached}
use Rattle.leader.specs.Elector.{Elector}
use Rattle.leader.specs.Election.{election}

-- ` leader B`: the identifier that a node knows
abbrev pub found_text : Elector → List ℕ
found_text s = numbered (codes " leader ") s.best

-- ` elected` if that is the identifier of the vertex
abbrev pub elected_text : Net → ℕ → Elector → List ℕ
elected_text net v s = if nat_eq (id_of net v) s.best then codes " elected" else []

-- each node knows the greatest identifier of its component
abbrev pub KnowTheLeader : Net → (ℕ → Elector) → Type 0
KnowTheLeader net states = (v : ℕ) → IsVertex net v → IsGreatestReached net v (states v).best

abbrev pub leader_words : NamedTexts Elector
leader_words = record {
  name = codes "leader";
  found = found_text;
  more = elected_text;
  Solves = KnowTheLeader;
}

-- all texts of the election
abbrev pub leader_texts : ProgramTexts Elector
leader_texts = texts_of election leader_words
