-- The text of what the nodes of a run of workers did.
use Rattle.std.specs.Prelude.{◌≡◌, ℕ, true, List, codes, flat_map, if◌then◌else◌, length, map}
use Rattle.interference.specs.Net.{Net, IsNetwork, count_of}
use Rattle.outcomes.specs.Outcome.{Gathered, Outcome, IsOutcome, entries_in, is_whole}
use Rattle.event_rule.specs.State.{State}
use Rattle.node_api.specs.Program.{Program}
use Rattle.entries.specs.declared.rows.Row.{Row}
use Rattle.program_texts.specs.Texts.{ProgramTexts}
use Rattle.transcripts.specs.TranscriptText.{named_edition, stamped_row_text, text_of, transcript_of}
use Rattle.program_texts.specs.PayloadTexts.{PayloadTexts}
use Rattle.plan_answers.specs.Answers.{ReadsAs}
use Rattle.event_rule.specs.Whole.{IsWholeReplay}
use Rattle.run_options.specs.declared.Edition.{Edition}
use Rattle.run_options.specs.declared.Edition.TheVariants as edition
use Rattle.entries.specs.Rows.{vertex_row, bare_of}
use Rattle.stamps.specs.Merged.{IsMerge, list_of}
use Rattle.entries.specs.declared.rows.StampedRow.{StampedRow}

-- the entries of a node without their stamps, each with its vertex
abbrev pub rows_in : {S M : Type 0} → Gathered S M → List (Row M)
rows_in g = map (λ entry. vertex_row g.vertex entry) (bare_of g.entries)

-- the words of the edition with stamps in which a program has its transcripts: `2`, or `3 NAME`
abbrev pub stamped_edition : {S : Type 0} → ProgramTexts S → List ℕ
stamped_edition texts = if texts.is_named then named_edition texts.name else codes "2"

-- the texts of programs by those of their payloads
module _ {S M : Type 0} (payloads : PayloadTexts M) where
  -- the transcript of so many nodes: the entries of each, vertex by vertex
  abbrev pub entries_text : ℕ → List (Gathered S M) → List ℕ
  entries_text count nodes = transcript_of payloads count (flat_map rows_in nodes)

  -- The text is the transcript of so many nodes in an edition with stamps: their entries in the order of the stamps and
  -- then of the vertices, each once.
  abbrev pub IsMergedText : List ℕ → ℕ → List (Gathered S M) → List ℕ → Type 0
  IsMergedText words count nodes text = (rows : List (StampedRow M))
      × IsMerge (length nodes) (list_of (map (λ node. node.entries) nodes)) rows
      × (text ≡ text_of words (stamped_row_text payloads) count rows)

  -- the text is the transcript of nodes without stamps, or with them
  abbrev pub IsTextIn : List ℕ → Edition → ℕ → List (Gathered S M) → List ℕ → Type 0
  IsTextIn words edition.One count nodes text = text ≡ entries_text count nodes
  IsTextIn words edition.Two count nodes text = IsMergedText words count nodes text

module _ {S M E : Type 0} (program : Program S M E) (payloads : PayloadTexts M) where
  -- The text is the transcript of a whole run of workers on the network, over links of some capacity.
  pub record IsTranscriptOf (net : Net) (text : List ℕ) : Type 0 where
    pub capacity : ℕ
    pub outcome : Outcome S M
    pub is_outcome : IsOutcome program net capacity true outcome
    pub whole : is_whole outcome ≡ true
    pub is_text : text ≡ entries_text payloads (count_of net) outcome.nodes

  -- The text is the transcript of a whole run of workers on the network, over links of some capacity, in an edition
  -- with stamps. Its entries are a whole replay: the event machine plays them in their order, each has the stamp that
  -- the counter of its node gives it, and in the end every node is drained and every link empty.
  pub record IsMergedTranscriptOf (words : List ℕ) (net : Net) (text : List ℕ) : Type 0 where
    pub capacity : ℕ
    pub outcome : Outcome S M
    pub is_outcome : IsOutcome program net capacity true outcome
    pub whole : is_whole outcome ≡ true
    pub rows : List (StampedRow M)
    pub merge : IsMerge (count_of net) (entries_in outcome) rows
    pub last : State S M
    pub is_replay : IsWholeReplay program net rows last
    pub is_text : text ≡ text_of words (stamped_row_text payloads) (count_of net) rows

  -- the text is the transcript of a whole run on the network: without stamps or with them
  abbrev pub IsTranscriptOn : List ℕ → Edition → Net → List ℕ → Type 0
  IsTranscriptOn words edition.One net text = IsTranscriptOf net text
  IsTranscriptOn words edition.Two net text = IsMergedTranscriptOf words net text

  -- the answer is that, in edition 1 or 2, of the network that the input describes
  abbrev pub IsTranscriptAnswer : Edition → List ℕ → List ℕ → Type 0
  IsTranscriptAnswer edition input answer =
      ReadsAs input (λ net. IsNetwork net × IsTranscriptOn (codes "2") edition net answer)
