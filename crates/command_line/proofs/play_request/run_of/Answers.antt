use Rattle.std.proofs.Common.{◌∙◌, Option, ap, sym}
use Rattle.std.specs.Prelude.{option_and_then}
use Rattle.clap.specs.Words.{found_of, rows_of}
use Rattle.run_options.specs.declared.Options.{Options}
use Rattle.command_line.specs.declared.programs.Shown.{Shown}
use Rattle.command_line.specs.declared.play_request.PlayRequest.{PlayRequest}
use Rattle.command_line.specs.declared.play_request.Play.TheVariants.{Run}
use Rattle.command_line.specs.Asked.{played}
use Rattle.command_line.specs.NodePrograms.{shown_of}
use Rattle.command_line.proofs.play_request.run_of.Goals as goal

pub returns : goal.returns
returns c =
    let rows = rows_of (found_of c.args.matches.now) in
    let run : Option Options → Option PlayRequest = λ given. option_and_then (λ options. played (Run options (shown_of rows)) rows) given in
    c.played.ensures ∙ ap (λ (shown : Shown). played (Run c.in_ok-options.options shown) rows) c.shown_of-shown.ensures
    ∙ ap run (sym c.in_ok-options.was ∙ c.options_of.ensures)
