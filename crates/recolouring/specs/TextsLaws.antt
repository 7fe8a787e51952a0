-- Laws of `Texts.antt`, which an `impl` cites.
use Rattle.std.specs.Prelude.{◌+◌, codes}
use Rattle.std.proofs.Common.{refl}
use Rattle.number_rows.proofs.Feeds.{no-feed-numbered}
use Rattle.program_texts.specs.Named.{AreNamed}
use Rattle.recolouring.specs.Texts.{recolouring_words}

-- no line feed is in them
pub recolouring_named : AreNamed recolouring_words
recolouring_named = record {
  name = refl;
  found = λ s. no-feed-numbered (codes " channel ") (s.beside.colour + 1) refl;
  more = λ net v s. refl;
}
