use Rattle.std.proofs.Common.{◌≡◌, fold, take}
use Rattle.clap.specs.Words.{app_of}
use Rattle.command_line.specs.Line.{IsLocal, with_option}
use Rattle.command_line.proofs.line.with_options.Given as goal

-- the options so far
abbrev pub invariant-loop-option : goal.invariant-loop-option
invariant-loop-option l = record {
  shape : app_of l.command ≡ fold with_option (app_of l.initial.command) (take l.option-index l.options);
  local : IsLocal l.command;
}
