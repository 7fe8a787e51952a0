-- Laws of `Texts.antt`, which an `impl` cites.
use Rattle.std.specs.Prelude.{ℕ, Bool, true, false, [], codes, if◌then◌else◌, nat_lt}
use Rattle.std.proofs.Common.{refl}
use Rattle.interference.specs.Net.{Net, degree_of, neighbour_of}
use Rattle.number_rows.specs.Feeds.{HasNoFeed}
use Rattle.number_rows.specs.Row.{numbered}
use Rattle.number_rows.proofs.Feeds.{no-feed-append, no-feed-numbered}
use Rattle.program_texts.specs.Named.{AreNamed}
use Rattle.layers.specs.declared.layer.Layer.{Layer}
use Rattle.layers.specs.declared.layer.Layer.TheVariants.{Unreached, Root, Away}
use Rattle.layers.specs.Texts.{layer_text, towards_text, layers_words}

-- no line feed is in them
no-feed-layer : (layer : Layer) → HasNoFeed (layer_text layer)
no-feed-layer Unreached = refl
no-feed-layer Root = refl
no-feed-layer (Away hops port) =
    no-feed-append (numbered (codes " layer ") hops) (numbered (codes " by ") port)
    (no-feed-numbered (codes " layer ") hops refl) (no-feed-numbered (codes " by ") port refl)

no-feed-if : (b : Bool) (w : ℕ) → HasNoFeed (if b then numbered (codes " to ") w else [])
no-feed-if true w = no-feed-numbered (codes " to ") w refl
no-feed-if false w = refl

no-feed-towards : (net : Net) (v : ℕ) (layer : Layer) → HasNoFeed (towards_text net v layer)
no-feed-towards net v Unreached = refl
no-feed-towards net v Root = refl
no-feed-towards net v (Away hops port) = no-feed-if (nat_lt port (degree_of net v)) (neighbour_of net v port)

pub layers_named : AreNamed layers_words
layers_named = record {
  name = refl;
  found = λ s. no-feed-layer s.layer;
  more = λ net v s. no-feed-towards net v s.layer;
}
