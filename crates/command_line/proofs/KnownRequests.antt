-- Each command of `forestplan` has a request, if clap finds no fault in its words.
use Rattle.std.proofs.Common.{◌≡◌, ◌∙◌, List, Option, Some, [], ap, ap₂, codes, option_map, refl, subst, sym}
use Rattle.std.proofs.lemmas.Option.{same_Some}
use Rattle.std.specs.List.{AllByRecursion}
use Rattle.clap.specs.Walk.{Row, Text, rows_after}
use Rattle.clap.specs.Simple.{Shape, built}
use Rattle.command_line.specs.Asked.{HasEntered, IsInRange, choice_of, request_named, transcript_with}
use Rattle.command_line.specs.Line.{line}
use Rattle.command_line.specs.RunOptions.{edition_of, options_of}
use Rattle.command_line.specs.declared.executable.Executable.TheVariants.{Forestplan}
use Rattle.command_line.specs.declared.request.Request.{Request}
use Rattle.command_line.specs.declared.request.Request.TheVariants.{Check, Forests, Plain, Plan, Transcript}
use Rattle.command_line.proofs.Lines.{Holds, one}
use Rattle.command_line.proofs.RunOptions.{run_found, run_rules, transcript_found, transcript_rules}

abbrev IsKnown : Text × List Row → Type 0
IsKnown command = (request : Request) × (request_named command.0 command.1 ≡ Some request) × IsInRange request

-- a run of workers has the options that its rows have
plan_has_request : (s : Shape) → s.name ≡ codes "plan" → s.rules ≡ run_rules → Holds IsKnown s
plan_has_request s name rules words none =
    let found = run_found s words rules none in
    let rows = rows_after s.rules [] words in
    let good : IsKnown (codes "plan", rows) = (Plan found.0, ap (option_map Plan) found.1, found.2) in
    subst (λ t. IsKnown (t, rows)) (sym name) good

transcript_has_request : (s : Shape) → s.name ≡ codes "transcript" → s.rules ≡ transcript_rules → Holds IsKnown s
transcript_has_request s name rules words none =
    let found = transcript_found s words rules none in
    let rows = rows_after s.rules [] words in
    let asked : transcript_with (options_of rows) (edition_of rows) ≡ Some (Transcript found.0.0 found.1.0) =
    ap₂ transcript_with found.0.1 found.1.1 in
    let good : IsKnown (codes "transcript", rows) = (Transcript found.0.0 found.1.0, asked, found.0.2) in
    subst (λ t. IsKnown (t, rows)) (sym name) good

all_known : AllByRecursion (Holds IsKnown) (built (line Forestplan)).subs
all_known = (
  (λ words e. (Forests, refl, tt)),
  (
    (λ words e. (Plain, refl, tt)),
    (plan_has_request _ refl refl, (transcript_has_request _ refl refl, ((λ words e. (Check, refl, tt)), tt))),
  ),
)

pub has_request : (words : List Text) (found : Option (Text × List Row)) → HasEntered Forestplan words found
    → (request : Request) × (choice_of request_named found ≡ Some request) × IsInRange request
has_request words found e =
    let is = one IsKnown Forestplan all_known words found e in
    (is.2.0, ap (choice_of request_named) is.1 ∙ is.2.1, is.2.2)

pub in_range : (words : List Text) (found : Option (Text × List Row)) (r : Request) → HasEntered Forestplan words found
    → choice_of request_named found ≡ Some r → IsInRange r
in_range words found r e is =
    let has = has_request words found e in
    subst IsInRange (same_Some has.0 r (sym has.1 ∙ is)) has.2
