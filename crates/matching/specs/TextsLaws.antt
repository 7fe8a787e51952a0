-- Laws of `Texts.antt`, which an `impl` cites.
use Rattle.std.specs.Prelude.{ℕ, Bool, true, false, [], codes, if◌then◌else◌, nat_lt, Option, Some}
use Rattle.std.specs.Prelude.{None}
use Rattle.std.proofs.Common.{refl}
use Rattle.interference.specs.Net.{Net, degree_of, neighbour_of}
use Rattle.number_rows.specs.Feeds.{HasNoFeed}
use Rattle.number_rows.specs.Row.{numbered}
use Rattle.number_rows.proofs.Feeds.{no-feed-numbered}
use Rattle.program_texts.specs.Named.{AreNamed}
use Rattle.matching.specs.Texts.{partner_text, towards_text, matching_words}

-- no line feed is in them
no-feed-partner : (partner : Option ℕ) → HasNoFeed (partner_text partner)
no-feed-partner None = refl
no-feed-partner (Some port) = no-feed-numbered (codes " partner ") port refl

no-feed-to : (is_port : Bool) (w : ℕ) → HasNoFeed (if is_port then numbered (codes " to ") w else [])
no-feed-to true w = no-feed-numbered (codes " to ") w refl
no-feed-to false w = refl

no-feed-towards : (net : Net) (v : ℕ) (partner : Option ℕ) → HasNoFeed (towards_text net v partner)
no-feed-towards net v None = refl
no-feed-towards net v (Some port) = no-feed-to (nat_lt port (degree_of net v)) (neighbour_of net v port)

pub matching_named : AreNamed matching_words
matching_named = record {
  name = refl;
  found = λ s. no-feed-partner s.beside;
  more = λ net v s. no-feed-towards net v s.beside;
}
