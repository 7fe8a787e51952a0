-- What the words of a command line ask for.
use Rattle.std.specs.Prelude.{◌≡◌, ◌≢◌, ◌⊎◌, List, [], ◌∷◌, Option, Some, None, if◌then◌else◌, codes, is_some, true}
use Rattle.std.specs.Prelude.{option_and_then, option_map}
use Rattle.std.specs.Str.{bytes_eq}
use Rattle.clap.specs.Words.{Row, Text, fault_of, subcommand_of}
use Rattle.clap.specs.Kinds.{IsAmong, Kinds}
use Rattle.clap.specs.declared.error.kind.ErrorKind.{ErrorKind}
use Rattle.clap.specs.declared.error.kind.ErrorKind.TheVariants.{DisplayHelp, InvalidSubcommand, OutOfMemory}
use Rattle.clap.specs.declared.error.kind.ErrorKind.TheVariants.{UnknownArgument}
use Rattle.run_options.specs.Ranges.{AreInRange}
use Rattle.run_options.specs.declared.Edition.{Edition}
use Rattle.run_options.specs.declared.Options.{Options}
use Rattle.command_line.specs.Line.{line}
use Rattle.command_line.specs.NodePrograms.{NamesNoProgram, program_of, shown_of}
use Rattle.command_line.specs.RunOptions.{edition_of, options_of}
use Rattle.command_line.specs.declared.declined.Declined.{Declined}
use Rattle.command_line.specs.declared.declined.Declined.TheVariants as declined
use Rattle.command_line.specs.declared.executable.Executable.{Executable}
use Rattle.command_line.specs.declared.executable.Executable.TheVariants.{Forestplan, Forestplay}
use Rattle.command_line.specs.declared.play_request.Play.{Play}
use Rattle.command_line.specs.declared.play_request.Play.TheVariants.{Alone, Ends, Events, Replay, Rounds, Run}
use Rattle.command_line.specs.declared.play_request.PlayRequest.{PlayRequest}
use Rattle.command_line.specs.declared.programs.NodeProgramName.{NodeProgramName}
use Rattle.command_line.specs.declared.request.Request.{Request}
use Rattle.command_line.specs.declared.request.Request.TheVariants.{Check, Forests, Plain, Plan, Transcript}

-- a transcript with options and an edition, if both are there
abbrev pub transcript_with : Option Options → Option Edition → Option Request
transcript_with options edition =
    option_and_then (λ given. option_map (λ form. Transcript given form) edition) options

-- what the command of a name asks `forestplan` for, given the values of its options; each command is a line
abbrev pub request_named : Text → List Row → Option Request
request_named name rows =
    if bytes_eq name (codes "forests") then Some Forests
    else if bytes_eq name (codes "plain") then Some Plain
    else if bytes_eq name (codes "plan") then option_map Plan (options_of rows)
    else if bytes_eq name (codes "transcript") then transcript_with (options_of rows) (edition_of rows)
    else if bytes_eq name (codes "check") then Some Check
    else None

-- nodes of a program are asked to do this
abbrev pub play_by : Play → NodeProgramName → PlayRequest
play_by play program = record { program = program; play = play }

-- what nodes are asked to do, if there is a program of the name that is given
abbrev pub played : Play → List Row → Option PlayRequest
played play rows = option_map (play_by play) (program_of rows)

-- the same of a run, if its options are there
abbrev pub run_of : List Row → Option PlayRequest
run_of rows = option_and_then (λ options. played (Run options (shown_of rows)) rows) (options_of rows)

-- the same of a run on one thread, which has no options of its own
abbrev pub alone_of : List Row → Option PlayRequest
alone_of rows = played (Alone (shown_of rows)) rows

-- what the command of a name asks `forestplay` for, given the values of its options; each command is a line
abbrev pub play_named : Text → List Row → Option PlayRequest
play_named name rows =
    if bytes_eq name (codes "events") then played Events rows
    else if bytes_eq name (codes "replay") then played Replay rows
    else if bytes_eq name (codes "rounds") then played Rounds rows
    else if bytes_eq name (codes "run") then run_of rows
    else if bytes_eq name (codes "alone") then alone_of rows
    else if bytes_eq name (codes "ends") then played Ends rows
    else None

-- a run of a program has options in range
abbrev pub IsPlayInRange : Play → Type 0
IsPlayInRange (Run options show) = AreInRange options
IsPlayInRange _ = Unit {0}

-- and so has every run of the colouring
abbrev pub IsInRange : Request → Type 0
IsInRange (Plan options) = AreInRange options
IsInRange (Transcript options edition) = AreInRange options
IsInRange _ = Unit {0}

-- an answer, if nothing is at fault
abbrev pub unless_at_fault : {A : Type 0} → Kinds → Option A → Option A
unless_at_fault [] answer = answer
unless_at_fault (kind ∷ kinds) answer = None

-- what the command that was found asks for, if the command of a name asks for this
abbrev pub choice_of : {A : Type 0} → (Text → List Row → Option A) → Option (Text × List Row) → Option A
choice_of named found = option_and_then (λ command. named command.0 command.1) found

-- what the words ask an executable for: what their command does, if clap finds no fault in them
abbrev pub asked_of : {A : Type 0} → Executable → (Text → List Row → Option A) → List Text → Option A
asked_of executable named words =
    unless_at_fault (fault_of (line executable) words) (choice_of named (subcommand_of (line executable) words))

-- what the words ask `forestplan` for
abbrev pub request_of : List Text → Option Request
request_of = asked_of Forestplan request_named

-- what the words ask `forestplay` for
abbrev pub play_request_of : List Text → Option PlayRequest
play_request_of = asked_of Forestplay play_named

-- clap finds no fault in the words, and has found their command
pub record HasEntered (executable : Executable) (words : List Text) (found : Option (Text × List Row)) : Type 0 where
  pub faultless : fault_of (line executable) words ≡ []
  pub command : found ≡ subcommand_of (line executable) words
  pub one : is_some found ≡ true

-- clap's first fault in the words is that they ask for help
abbrev pub AskForHelp : Executable → List Text → Type 0
AskForHelp executable words = IsAmong DisplayHelp (fault_of (line executable) words)

-- clap's first fault in the words is any other
abbrev pub HaveFault : Executable → List Text → Type 0
HaveFault executable words = (kind : ErrorKind) × (kind ≢ DisplayHelp) × IsAmong kind (fault_of (line executable) words)

-- the command that was found names no program of nodes
abbrev pub FoundNamesNoProgram : Option (Text × List Row) → Type 0
FoundNamesNoProgram None = ⊥
FoundNamesNoProgram (Some command) = NamesNoProgram command.1

-- clap finds a fault in the words, other than that they ask for help; or it finds none, and the words name no program
-- of nodes, or give a root or passes to one that takes none
abbrev pub AreRefused : Executable → List Text → Type 0
AreRefused executable words = HaveFault executable words
    ⊎ ((fault_of (line executable) words ≡ []) × FoundNamesNoProgram (subcommand_of (line executable) words))

-- what words in which clap finds a fault are declined with
abbrev pub MayDeclineFault : Executable → List Text → Declined → Type 0
MayDeclineFault executable words (declined.Help text) = AskForHelp executable words
MayDeclineFault executable words (declined.Refused text) = HaveFault executable words
MayDeclineFault executable words declined.Memory = Unit {0}

-- what the words, which ask for nothing, are declined with
abbrev pub MayDecline : {A : Type 0} → Executable → Option A → List Text → Declined → Type 0
MayDecline executable asked words (declined.Help text) = (asked ≡ None) × AskForHelp executable words
MayDecline executable asked words (declined.Refused text) = (asked ≡ None) × AreRefused executable words
MayDecline executable asked words declined.Memory = Unit {0}

-- how an executable reads its input
abbrev pub reads_text : Executable → Text
reads_text Forestplan = codes "forestplan reads the network from standard input: forestplan plan < FILE\n"
reads_text Forestplay = codes "forestplay reads the network from standard input: forestplay rounds < FILE\n"

-- the last line of a refusal of a word that clap doesn't know
abbrev pub hint_of : ErrorKind → Executable → Text
hint_of UnknownArgument executable = reads_text executable
hint_of InvalidSubcommand executable = reads_text executable
hint_of _ executable = []

-- what an error of this kind becomes
abbrev pub IsDeclinedBy : ErrorKind → Declined → Type 0
IsDeclinedBy kind (declined.Help text) = kind ≡ DisplayHelp
IsDeclinedBy kind (declined.Refused text) = (kind ≢ DisplayHelp) × (kind ≢ OutOfMemory)
IsDeclinedBy kind declined.Memory = Unit {0}

-- what a program that isn't known becomes
abbrev pub IsRefusal : Declined → Type 0
IsRefusal (declined.Help text) = ⊥
IsRefusal (declined.Refused text) = Unit {0}
IsRefusal declined.Memory = Unit {0}
