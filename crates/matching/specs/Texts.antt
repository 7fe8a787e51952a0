-- The words of the matching in texts.
use Rattle.std.specs.Prelude.{◌≡◌, ℕ, ◌<◌, List, [], codes, if◌then◌else◌, nat_lt, Option, Some}
use Rattle.std.specs.Prelude.{None}
use Rattle.interference.specs.Net.{Net, IsEdge, IsVertex, degree_of, neighbour_of, port_to}
use Rattle.number_rows.specs.Row.{numbered}
use Rattle.program_texts.specs.Named.{NamedTexts, texts_of}
use Rattle.program_texts.specs.Texts.{ProgramTexts}
use Rattle.followed.specs.Followed.{Both}
use Rattle.colour_rules.specs.Node.{Node}
use Rattle.matching.specs.Knowing.{matching}

-- ` partner PORT`, or ` partner none`
abbrev pub partner_text : Option ℕ → List ℕ
partner_text None = codes " partner none"
partner_text (Some port) = numbered (codes " partner ") port

-- ` to W`: the neighbour at the port of a partner
abbrev pub towards_text : Net → ℕ → Option ℕ → List ℕ
towards_text net v None = []
towards_text net v (Some port) =
    if nat_lt port (degree_of net v) then numbered (codes " to ") (neighbour_of net v port) else []

-- Each partner is a neighbour whose partner the node is, and of two neighbours one has a partner.
pub record AreMatched (net : Net) (states : ℕ → Both Node (Option ℕ)) : Type 0 where
  pub partners : (v port : ℕ) → IsVertex net v → (states v).beside ≡ Some port → (port < degree_of net v)
      × (let w = neighbour_of net v port in (states w).beside ≡ Some (port_to net w v))
  pub maximal : (v w : ℕ) → IsEdge net v w → (states v).beside ≡ None → (states w).beside ≡ None → ⊥

abbrev pub matching_words : NamedTexts (Both Node (Option ℕ))
matching_words = record {
  name = codes "matching";
  found = λ s. partner_text s.beside;
  more = λ net v s. towards_text net v s.beside;
  Solves = AreMatched;
}

-- all texts of the matching
abbrev pub matching_texts : ProgramTexts (Both Node (Option ℕ))
matching_texts = texts_of matching matching_words
