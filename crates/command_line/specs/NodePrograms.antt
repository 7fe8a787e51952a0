-- The options that say what the nodes of a command run, and the one that asks for a transcript, in clap's own words,
-- and what they read from the rows of a command.
use Rattle.std.specs.Prelude.{◌≡◌, ◌-◌, ◌^◌, ◌&&◌, ℕ, List, [], ◌∷◌, Option, Some, None, if◌then◌else◌, codes, nat_le}
use Rattle.std.specs.Prelude.{option_and_then, option_map}
use Rattle.std.specs.Str.{bytes_eq}
use Rattle.clap.specs.Words.{Row, Rule, Text, first_of, new_rule}
use Rattle.clap.specs.declared.builder.action.ArgAction.TheVariants.{SetTrue}
use Rattle.clap.specs.declared.builder.value_parser.ValueParser.TheVariants.{Unsigned}
use Rattle.graph_limits.specs.declared.limits.TheConstants.{MAX_NODES}
use Rattle.command_line.specs.RunOptions.{number_of}
use Rattle.command_line.specs.declared.programs.NodeProgramName.{NodeProgramName}
use Rattle.command_line.specs.declared.programs.NodeProgramName.TheVariants.{Colouring, IndependentSet, Layers, Leader}
use Rattle.command_line.specs.declared.programs.NodeProgramName.TheVariants.{Matching, Recolouring}
use Rattle.command_line.specs.declared.programs.Shown.{Shown}
use Rattle.command_line.specs.declared.programs.Shown.TheVariants as shown
use Rattle.command_line.specs.declared.programs.TheConstants.{MAX_PASSES}

-- the option that names a program; without it, the colouring
abbrev pub program_rule : Rule
program_rule = record (new_rule (codes "program")) {
  long = Some (codes "program");
  value_names = 1;
  defaults = codes "colouring" ∷ [];
}

-- the option that gives the root of the layers, a vertex; it has no default
abbrev pub root_rule : Rule
root_rule = record (new_rule (codes "root")) {
  long = Some (codes "root");
  value_names = 1;
  parser = Some (Unsigned 1 MAX_NODES);
}

-- the option that says how often the classes of a plan choose anew; it has no default
abbrev pub passes_rule : Rule
passes_rule = record (new_rule (codes "passes")) {
  long = Some (codes "passes");
  value_names = 1;
  parser = Some (Unsigned 1 MAX_PASSES);
}

-- the option that asks for a transcript, which has no value
abbrev pub transcript_rule : Rule
transcript_rule = record (new_rule (codes "transcript")) {
  long = Some (codes "transcript");
  action = Some SetTrue;
}

-- the program that a word names, each a line
abbrev pub program_with : Text → Option NodeProgramName
program_with word =
    if bytes_eq word (codes "colouring") then Some Colouring
    else if bytes_eq word (codes "leader") then Some Leader
    else if bytes_eq word (codes "layers") then Some (Layers None)
    else if bytes_eq word (codes "matching") then Some Matching
    else if bytes_eq word (codes "independent-set") then Some IndependentSet
    else if bytes_eq word (codes "recolouring") then Some (Recolouring 0)
    else None

-- the root that a command is given, if it is given one
abbrev pub root_of : List Row → Option ℕ
root_of rows = number_of (2 ^ 32) (codes "root") rows

-- a program with the root that is given, if one is; only the layers take one
abbrev pub rooted_program : Option ℕ → NodeProgramName → Option NodeProgramName
rooted_program None program = Some program
rooted_program (Some v) (Layers root) = Some (Layers (Some v))
rooted_program (Some v) _ = None

-- the program that a word names, with the root that is given
abbrev pub rooted_program_with : Option ℕ → Text → Option NodeProgramName
rooted_program_with root word = option_and_then (rooted_program root) (program_with word)

-- the program that a command has, from the words or by default, if its word names one that takes the root
abbrev pub rooted_of : List Row → Option NodeProgramName
rooted_of rows = option_and_then (rooted_program_with (root_of rows)) (first_of (codes "program") rows)

-- the number of passes that a command is given, if it is given one
abbrev pub passes_of : List Row → Option ℕ
passes_of rows = number_of (2 ^ 32) (codes "passes") rows

-- how many passes more than one these are, if the option takes as many
abbrev pub again_for : ℕ → Option ℕ
again_for passes = if nat_le 1 passes && nat_le passes MAX_PASSES then Some (passes - 1) else None

-- a program with the passes that are given, if they are; only the recolouring takes them
abbrev pub passed_program : Option ℕ → NodeProgramName → Option NodeProgramName
passed_program None program = Some program
passed_program (Some number) (Recolouring before) = option_map Recolouring (again_for number)
passed_program (Some number) _ = None

-- the program that a word names, with the root and the passes that are given
abbrev pub given_program : List Row → Text → Option NodeProgramName
given_program rows word = option_and_then (passed_program (passes_of rows)) (rooted_program_with (root_of rows) word)

-- the program that a command has, if its word names one that takes the root and the passes
abbrev pub program_of : List Row → Option NodeProgramName
program_of rows = option_and_then (passed_program (passes_of rows)) (rooted_of rows)

-- a word is given for a program, and names none; or it names one that takes no root or no passes, and they are given
abbrev pub NamesNoProgram : List Row → Type 0
NamesNoProgram rows =
    (word : Text) × (first_of (codes "program") rows ≡ Some word) × (given_program rows word ≡ None)

-- what the value of the option `transcript` asks for
abbrev pub shown_with : Option Text → Shown
shown_with None = shown.States
shown_with (Some word) = if bytes_eq word (codes "true") then shown.Transcript else shown.States

-- what a run shows: a transcript if that is asked for, and else the last states
abbrev pub shown_of : List Row → Shown
shown_of rows = shown_with (first_of (codes "transcript") rows)
