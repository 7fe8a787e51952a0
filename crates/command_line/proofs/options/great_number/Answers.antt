use Rattle.clap.specs.Words.{found_of}
use Rattle.std.specs.Str.Parse.{ExplainsUnsignedError, HasUnsignedDigitsIfOk, ParsesUnsigned}
use Rattle.command_line.proofs.Numbers.{number_read}
use Rattle.command_line.proofs.options.great_number.Goals as goal

pub returns : goal.returns
returns c = number_read (λ bs r. ParsesUnsigned 64 10 bs r × ExplainsUnsignedError 10 bs r × HasUnsignedDigitsIfOk bs r) 64 (λ t x g. g.0)
    (found_of c.args.matches.now) c.args.name.now c.get_one.result c.get_one.ensures.none c.get_one.ensures.value
