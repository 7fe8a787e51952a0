-- The texts of the colouring: the first line of its rounds, its phases, colours and choices, and a node's channel.
use Rattle.std.specs.Prelude.{ℕ, ◌+◌, ◌/◌, ◌%◌, ◌==◌, false, if◌then◌else◌, List, [], ◌∷◌, ◌++◌, codes}
use Rattle.std.specs.Prelude.{flat_map}
use Rattle.std.specs.Prelude.{slice_index}
use Rattle.std.specs.List.{range_with_len}
use Rattle.interference.specs.Net.{Net, count_of, forest_count_of, greatest_bars_of, greatest_degree_of}
use Rattle.node_api.specs.Program.{Sizes, last_pulse_on, sizes_of, span}
use Rattle.colour_rules.specs.declared.phase.Reduction.{Reduction}
use Rattle.colour_rules.specs.declared.phase.Reduction.TheVariants.{Step, Shift, Drop}
use Rattle.colour_rules.specs.declared.phase.Phase.{Phase}
use Rattle.colour_rules.specs.declared.phase.Phase.TheVariants.{Greet, Orient, Seed, Work, Merge, Halted}
use Rattle.colour_rules.specs.Node.{Node, phase_of}
use Rattle.colour_rules.specs.Choice.{chooses}
use Rattle.colour_rules.specs.Program.{colouring}
use Rattle.colour_laws.specs.Colours.{AreColours}
use Rattle.number_rows.specs.Row.{row, numbered}
use Rattle.program_texts.specs.Texts.{ProgramTexts}

-- `rounds 1 N DELTA U R`, or `rounds 2 N DELTA BARS U R` where a vertex has a bar
abbrev pub head_line : Net → List ℕ
head_line net =
    codes "rounds " ++ (if greatest_bars_of net == 0
    then row (1 ∷ count_of net ∷ greatest_degree_of net ∷ forest_count_of net ∷ last_pulse_on colouring net ∷ [])
    else row (2 ∷ count_of net ∷ greatest_degree_of net ∷ greatest_bars_of net ∷ forest_count_of net
    ∷ last_pulse_on colouring net ∷ []))

abbrev pub reduction_text : Reduction → List ℕ
reduction_text (Step k) = codes " step"
reduction_text (Shift x) = codes " shift"
reduction_text (Drop x) = codes " drop"

-- the words of a phase; of a step of the merging its forest, and the three-colour and the old colour of those that
-- choose
abbrev pub phase_text : Sizes → Phase → List ℕ
phase_text sizes Greet = codes " greet"
phase_text sizes Orient = codes " orient"
phase_text sizes Seed = codes " seed"
phase_text sizes (Work reduction) = reduction_text reduction
phase_text sizes (Merge f s) =
    numbered (codes " merge ") f ++ numbered (codes " ") (s / (span sizes + 1))
    ++ numbered (codes " ") (s % (span sizes + 1))
phase_text sizes Halted = codes " halted"

-- `V colour F C`: a node's colour in a forest
abbrev pub colour_text : ℕ → Node → ℕ → List ℕ
colour_text v node f =
    numbered (codes "") v ++ numbered (codes " colour ") f ++ numbered (codes " ") (slice_index node.colours f)
    ++ codes "\n"

-- its colours in all forests
abbrev pub colours_text : ℕ → Node → List ℕ
colours_text v node = flat_map (colour_text v node) (range_with_len 0 node.sizes.forests)

-- `V chose C`: its merged colour
abbrev pub choice_text : ℕ → Node → List ℕ
choice_text v node = numbered (codes "") v ++ numbered (codes " chose ") node.merged ++ codes "\n"

-- What is said of a node after a pulse of this phase: its colours while they are made, and its merged colour if its
-- three-colour and its old colour are the pair of the step, so that it chose at it.
abbrev pub node_text : Phase → ℕ → Node → List ℕ
node_text Greet v node = []
node_text Orient v node = []
node_text Seed v node = colours_text v node
node_text (Work reduction) v node = colours_text v node
node_text (Merge f s) v node = if chooses node f s then choice_text v node else []
node_text Halted v node = []

-- the nodes have the colours of the network
abbrev pub HaveColours : Net → (ℕ → Node) → Type 0
HaveColours net states = AreColours net (λ v. (states v).merged)

-- all texts of the colouring; the result of a node is its channel, one more than its colour
abbrev pub colouring_texts : ProgramTexts Node
colouring_texts =
    record {
      name = codes "colouring";
      is_named = false;
      head = head_line;
      phase = λ net p. phase_text (sizes_of net) (phase_of (sizes_of net) p);
      lines = λ net p v node. node_text (phase_of (sizes_of net) p) v node;
      result = λ net v node. numbered (codes " channel ") (node.merged + 1);
      Solves = HaveColours;
    }
