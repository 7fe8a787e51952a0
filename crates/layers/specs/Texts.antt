-- The words of the layers in texts.
use Rattle.std.specs.Prelude.{ℕ, List, [], ◌++◌, codes, if◌then◌else◌, nat_lt}
use Rattle.interference.specs.Net.{Net, IsVertex, degree_of, neighbour_of}
use Rattle.number_rows.specs.Row.{numbered}
use Rattle.program_texts.specs.Named.{NamedTexts, texts_of}
use Rattle.program_texts.specs.Texts.{ProgramTexts}
use Rattle.layers.specs.declared.layer.Layer.{Layer}
use Rattle.layers.specs.declared.layer.Layer.TheVariants.{Unreached, Root, Away}
use Rattle.layers.specs.Distances.{IsLayer, IsLayerFrom}
use Rattle.layers.specs.Layered.{Layered}
use Rattle.layers.specs.Layering.{layering}

-- ` layer D by PORT`, ` layer 0` of the root, or ` layer none`
abbrev pub layer_text : Layer → List ℕ
layer_text Unreached = codes " layer none"
layer_text Root = codes " layer 0"
layer_text (Away hops port) = numbered (codes " layer ") hops ++ numbered (codes " by ") port

-- ` to W`: the neighbour at a port of a vertex
abbrev pub to_text : Net → ℕ → ℕ → List ℕ
to_text net v port = if nat_lt port (degree_of net v) then numbered (codes " to ") (neighbour_of net v port) else []

-- the same of the port of a layer, if it has one
abbrev pub towards_text : Net → ℕ → Layer → List ℕ
towards_text net v Unreached = []
towards_text net v Root = []
towards_text net v (Away hops port) = to_text net v port

-- each node knows its distance from the root, and a port that leads closer
abbrev pub KnowTheirLayers : Net → (ℕ → Layered) → Type 0
KnowTheirLayers net states = (v : ℕ) → IsVertex net v → IsLayer net v (states v).layer

abbrev pub layers_words : NamedTexts Layered
layers_words = record {
  name = codes "layers";
  found = λ s. layer_text s.layer;
  more = λ net v s. towards_text net v s.layer;
  Solves = KnowTheirLayers;
}

-- all texts of the layers
abbrev pub layers_texts : ProgramTexts Layered
layers_texts = texts_of layering layers_words

-- each node knows its distance from a vertex, and a port that leads closer to it
abbrev pub KnowTheirLayersFrom : ℕ → Net → (ℕ → Layered) → Type 0
KnowTheirLayersFrom root net states = (v : ℕ) → IsVertex net v → IsLayerFrom net root v (states v).layer

-- the same texts, with this vertex in what they are to say
abbrev pub layers_texts_from : ℕ → ProgramTexts Layered
layers_texts_from root = record layers_texts { Solves = KnowTheirLayersFrom root }
