-- Each command of `forestplay` has a request, if clap finds no fault in its words and they name a program of nodes.
use Rattle.std.proofs.Common.{◌≡◌, ◌∙◌, ◌⊎◌, List, Option, Some, None, [], ap, inl, inr, option_map, refl, subst, sym, ⊎_elim}
use Rattle.std.proofs.lemmas.Option.{same_Some}
use Rattle.std.specs.List.{AllByRecursion}
use Rattle.std.specs.Prelude.{option_and_then}
use Rattle.clap.specs.Walk.{Row, Text, rows_after}
use Rattle.clap.specs.Simple.{Shape, built}
use Rattle.run_options.specs.declared.Options.{Options}
use Rattle.command_line.specs.Asked.{FoundNamesNoProgram, HasEntered, IsPlayInRange, IsRefusal, MayDecline, choice_of, play_by, play_named, play_request_of}
use Rattle.command_line.specs.Asked.{alone_of, played, run_of}
use Rattle.command_line.specs.Line.{line}
use Rattle.command_line.specs.NodePrograms.{NamesNoProgram, given_program, passed_program, passes_of, root_of, rooted_program_with, shown_of}
use Rattle.command_line.specs.declared.declined.Declined.{Declined}
use Rattle.command_line.specs.declared.declined.Declined.TheVariants as given
use Rattle.command_line.specs.declared.executable.Executable.TheVariants.{Forestplay}
use Rattle.command_line.specs.declared.play_request.Play.{Play}
use Rattle.command_line.specs.declared.play_request.Play.TheVariants.{Alone, Ends, Events, Replay, Rounds, Run}
use Rattle.command_line.specs.declared.play_request.PlayRequest.{PlayRequest}
use Rattle.command_line.specs.declared.programs.NodeProgramName.{NodeProgramName}
use Rattle.command_line.proofs.Declining.{taken}
use Rattle.command_line.proofs.Lines.{Holds, one}
use Rattle.command_line.proofs.Played.{HasWord, alone_found, alone_rules, play_found, play_rules, run_found, run_rules}

abbrev IsGood : Option PlayRequest → Type 0
IsGood asked = (request : PlayRequest) × (asked ≡ Some request) × IsPlayInRange request.play

-- rows have a request, or their word names no program of nodes
abbrev Is : Option PlayRequest → List Row → Type 0
Is asked rows = IsGood asked ⊎ ((asked ≡ None) × NamesNoProgram rows)

abbrev IsKnown : Text × List Row → Type 0
IsKnown command = Is (play_named command.0 command.1) command.1

-- what is asked of the program of rows, if their word names one
by_word : (play : Play) (rows : List Row) → HasWord rows → IsPlayInRange play → Is (played play rows) rows
by_word play rows has range = go (given_program rows has.0) refl
  where
    given : Option Text → Option NodeProgramName
    given word = option_and_then (passed_program (passes_of rows)) (option_and_then (rooted_program_with (root_of rows)) word)

    go : (o : Option NodeProgramName) → given_program rows has.0 ≡ o → Is (played play rows) rows
    go None e = inr (ap (option_map (play_by play)) (ap given has.1 ∙ e), (has.0, has.1, e))
    go (Some p) e = inl (play_by play p, ap (option_map (play_by play)) (ap given has.1 ∙ e), range)

play_has_request : (s : Shape) (play : Play) → s.rules ≡ play_rules → IsPlayInRange play
    → ((rows : List Row) → play_named s.name rows ≡ played play rows) → Holds IsKnown s
play_has_request s play rules range names words none =
    let rows = rows_after s.rules [] words in
    subst (λ asked. Is asked rows) (sym (names rows)) (by_word play rows (play_found s words rules none) range)

run_has_request : (s : Shape) → s.rules ≡ run_rules → ((rows : List Row) → play_named s.name rows ≡ run_of rows) → Holds IsKnown s
run_has_request s rules names words none =
    let rows = rows_after s.rules [] words in
    let found = run_found s words rules none in
    let options = found.1 in
    let run : Option Options → Option PlayRequest = λ given. option_and_then (λ o. played (Run o (shown_of rows)) rows) given in
    subst (λ asked. Is asked rows) (sym (names rows ∙ ap run options.1)) (by_word (Run options.0 (shown_of rows)) rows found.0 options.2)

alone_has_request : (s : Shape) → s.rules ≡ alone_rules → ((rows : List Row) → play_named s.name rows ≡ alone_of rows) → Holds IsKnown s
alone_has_request s rules names words none =
    let rows = rows_after s.rules [] words in
    subst (λ asked. Is asked rows) (sym (names rows)) (by_word (Alone (shown_of rows)) rows (alone_found s words rules none) tt)

all_known : AllByRecursion (Holds IsKnown) (built (line Forestplay)).subs
all_known = (
  play_has_request _ Events refl tt (λ rows. refl),
  (
    play_has_request _ Replay refl tt (λ rows. refl),
    (
      play_has_request _ Rounds refl tt (λ rows. refl),
      (
        run_has_request _ refl (λ rows. refl),
        (alone_has_request _ refl (λ rows. refl), (play_has_request _ Ends refl tt (λ rows. refl), tt)),
      ),
    ),
  ),
)

pub in_range : (words : List Text) (found : Option (Text × List Row)) (r : PlayRequest) → HasEntered Forestplay words found
    → choice_of play_named found ≡ Some r → IsPlayInRange r.play
in_range words found r e is =
    let has = one IsKnown Forestplay all_known words found e in
    let same = sym (ap (choice_of play_named) has.1) ∙ is in
    ⊎_elim
    (λ good. subst (λ (request : PlayRequest). IsPlayInRange request.play) (same_Some good.0 r (sym good.1 ∙ same)) good.2)
    (λ no. let both : None ≡ Some r = sym no.0 ∙ same in cc)
    has.2

-- if they ask for nothing, and clap finds no fault, they name no program of nodes
pub unnamed : (words : List Text) (found : Option (Text × List Row)) (with : Declined) → HasEntered Forestplay words found
    → choice_of play_named found ≡ None → IsRefusal with → MayDecline Forestplay (play_request_of words) words with
unnamed words found (given.Help text) e nothing is = absurd is
unnamed words found (given.Refused text) e nothing is =
    let has = one IsKnown Forestplay all_known words found e in
    let names : FoundNamesNoProgram found = subst FoundNamesNoProgram (sym has.1) (⊎_elim
    (λ good. let both : None ≡ Some good.0 = sym nothing ∙ ap (choice_of play_named) has.1 ∙ good.1 in cc)
    (λ no. no.1)
    has.2) in
    (taken Forestplay play_named words found e ∙ nothing, inr (e.faultless, subst FoundNamesNoProgram e.command names))
unnamed words found given.Memory e nothing is = tt
