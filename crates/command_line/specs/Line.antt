-- The command lines in clap's own words: an executable, and its commands with their options.
use Rattle.std.specs.Prelude.{◌≡◌, ◌∷◌, ◌++◌, List, [], false, true, codes}
use Rattle.std.specs.List.{fold}
use Rattle.clap.specs.Words.{App, Rule, Text, new_app, with_rule, with_subcommand}
use Rattle.clap.specs.declared.builder.command.Command.{Command}
use Rattle.clap.specs.declared.builder.command.Command.TheViews.{out-Command}
use Rattle.command_line.specs.NodePrograms.{passes_rule, program_rule, root_rule, transcript_rule}
use Rattle.command_line.specs.RunOptions.{capacity_rule, edition_rule, turns_rule, workers_rule}
use Rattle.command_line.specs.declared.commands.CommandRow.{CommandRow}
use Rattle.command_line.specs.declared.command_options.CommandOption.{CommandOption}
use Rattle.command_line.specs.declared.command_options.CommandOption.TheVariants.{Capacity, Edition, Passes, Program}
use Rattle.command_line.specs.declared.command_options.CommandOption.TheVariants.{Root, Transcript, Turns, Workers}
use Rattle.command_line.specs.declared.executable.Executable.{Executable}
use Rattle.command_line.specs.declared.executable.Executable.TheVariants.{Forestplan, Forestplay}

-- no option of the command is one of its subcommands, too
abbrev pub IsLocal : Command → Type 0
IsLocal command = (out-Command command).has_globals ≡ false

abbrev pub name_of : Executable → Text
name_of Forestplan = codes "forestplan"
name_of Forestplay = codes "forestplay"

-- a program of a name: a command is wanted, and the word `help` is none
abbrev pub without_commands : Text → App
without_commands name = record (new_app name) {
  top = record (new_app name).top {
    subcommand_required = true;
    disable_help_subcommand = true;
  };
}

-- an option
abbrev pub rule_for : CommandOption → Rule
rule_for Workers = workers_rule
rule_for Capacity = capacity_rule
rule_for Turns = turns_rule
rule_for Edition = edition_rule
rule_for Program = program_rule
rule_for Root = root_rule
rule_for Passes = passes_rule
rule_for Transcript = transcript_rule

-- a command with one option more
abbrev pub with_option : App → CommandOption → App
with_option command option = with_rule command (rule_for option)

-- the command of a name with these options
abbrev pub command_of : Text → List CommandOption → App
command_of name options = fold with_option (new_app name) options

-- a program with one command more
abbrev pub with_command : App → Text × List CommandOption → App
with_command program command = with_subcommand program (command_of command.0 command.1).top

-- the same with a row of the code
abbrev pub with_row : App → CommandRow → App
with_row program row = with_command program (row.name.now, row.options.now)

-- the options of a run of workers, and those that say what nodes run
abbrev pub run_options : List CommandOption
run_options = Workers ∷ Capacity ∷ Turns ∷ []

abbrev pub program_options : List CommandOption
program_options = Program ∷ Root ∷ Passes ∷ []

-- the commands of an executable, each a line: its name and its options
abbrev pub commands_of : Executable → List (Text × List CommandOption)
commands_of Forestplan =
    (codes "forests", [])
    ∷ (codes "plain", [])
    ∷ (codes "plan", run_options)
    ∷ (codes "transcript", run_options ++ Edition ∷ [])
    ∷ (codes "check", [])
    ∷ []
commands_of Forestplay =
    (codes "events", program_options)
    ∷ (codes "replay", program_options)
    ∷ (codes "rounds", program_options)
    ∷ (codes "run", program_options ++ run_options ++ Transcript ∷ [])
    ∷ (codes "alone", program_options ++ Transcript ∷ [])
    ∷ (codes "ends", program_options)
    ∷ []

-- the whole command line of an executable
abbrev pub line : Executable → App
line executable = fold with_command (without_commands (name_of executable)) (commands_of executable)
