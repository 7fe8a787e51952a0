use Rattle.std.proofs.Common.{◌∙◌, ap}
use Rattle.clap.specs.Words.{found_of, rows_of}
use Rattle.command_line.specs.declared.programs.Shown.{Shown}
use Rattle.command_line.specs.declared.play_request.Play.TheVariants.{Alone}
use Rattle.command_line.specs.Asked.{played}
use Rattle.command_line.proofs.play_request.alone_of.Goals as goal

pub returns : goal.returns
returns c =
    let rows = rows_of (found_of c.args.matches.now) in
    c.played.ensures ∙ ap (λ (shown : Shown). played (Alone shown) rows) c.shown_of-shown.ensures
