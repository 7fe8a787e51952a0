-- Laws of `Texts.antt`, which an `impl` cites.
use Rattle.std.specs.Prelude.{codes}
use Rattle.std.proofs.Common.{refl}
use Rattle.number_rows.proofs.Feeds.{no-feed-numbered}
use Rattle.program_texts.specs.Named.{AreNamed}
use Rattle.silent.specs.Texts.{silent_words}

-- the name is a word, and no line feed is in the others
pub silent_named : AreNamed silent_words
silent_named = record {
  name = refl;
  found = λ s. no-feed-numbered (codes " silent ") s.number refl;
  more = λ net v s. refl;
}
