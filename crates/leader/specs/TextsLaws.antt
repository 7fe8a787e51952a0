-- Laws of `Texts.antt`, which an `impl` cites.
use Rattle.std.specs.Prelude.{Bool, true, false, [], codes, if◌then◌else◌, nat_eq}
use Rattle.std.proofs.Common.{refl}
use Rattle.interference.specs.Net.{id_of}
use Rattle.number_rows.specs.Feeds.{HasNoFeed}
use Rattle.number_rows.proofs.Feeds.{no-feed-numbered}
use Rattle.program_texts.specs.Named.{AreNamed}
use Rattle.leader.specs.Texts.{leader_words}

-- no line feed is in them
no-feed-elected : (own : Bool) → HasNoFeed (if own then codes " elected" else [])
no-feed-elected true = refl
no-feed-elected false = refl

pub leader_named : AreNamed leader_words
leader_named = record {
  name = refl;
  found = λ s. no-feed-numbered (codes " leader ") s.best refl;
  more = λ net v s. no-feed-elected (nat_eq (id_of net v) s.best);
}
