-- Laws of `ColoursText.antt`, which an `impl` cites.
use Rattle.std.specs.Prelude.{ℕ, ◌+◌, ◌/◌, ◌%◌, ◌==◌, Bool, true, false, if◌then◌else◌, List, [], ◌∷◌, ◌++◌, codes}
use Rattle.std.specs.Prelude.{slice_index}
use Rattle.std.specs.List.{range_with_len}
use Rattle.std.proofs.Common.{inl, refl}
use Rattle.interference.specs.Net.{count_of, forest_count_of, greatest_bars_of, greatest_degree_of}
use Rattle.node_api.specs.Program.{Sizes, last_pulse_on, sizes_of, span}
use Rattle.colour_rules.specs.declared.phase.Reduction.{Reduction}
use Rattle.colour_rules.specs.declared.phase.Reduction.TheVariants.{Step, Shift, Drop}
use Rattle.colour_rules.specs.declared.phase.Phase.{Phase}
use Rattle.colour_rules.specs.declared.phase.Phase.TheVariants.{Greet, Orient, Seed, Work, Merge, Halted}
use Rattle.colour_rules.specs.Node.{Node, phase_of}
use Rattle.colour_rules.specs.Choice.{chooses}
use Rattle.colour_rules.specs.Program.{colouring}
use Rattle.number_rows.specs.Feeds.{AreLines, HasNoFeed, IsLine}
use Rattle.number_rows.specs.Row.{row, numbered}
use Rattle.number_rows.proofs.Feeds.{are-lines, line-behind, line-end, line-row, lines-each, no-feed-append}
use Rattle.number_rows.proofs.Feeds.{no-feed-decimal, no-feed-numbered}
use Rattle.program_texts.specs.NamedLaws.{lines-if}
use Rattle.program_texts.specs.Texts.{AreTexts}
use Rattle.colour_program.specs.ColoursText.{reduction_text, phase_text, colour_text, colours_text, choice_text}
use Rattle.colour_program.specs.ColoursText.{node_text, colouring_texts}

-- ---- these are texts
either-line : (b : Bool) (one other : List ℕ) → IsLine one → IsLine other → IsLine (if b then one else other)
either-line true one other is also = is
either-line false one other is also = also

no-feed-reduction : (reduction : Reduction) → HasNoFeed (reduction_text reduction)
no-feed-reduction (Step k) = refl
no-feed-reduction (Shift x) = refl
no-feed-reduction (Drop x) = refl

no-feed-phase : (sizes : Sizes) (phase : Phase) → HasNoFeed (phase_text sizes phase)
no-feed-phase sizes Greet = refl
no-feed-phase sizes Orient = refl
no-feed-phase sizes Seed = refl
no-feed-phase sizes (Work reduction) = no-feed-reduction reduction
no-feed-phase sizes (Merge f s) =
    let three = numbered (codes " ") (s / (span sizes + 1)) in
    let old = numbered (codes " ") (s % (span sizes + 1)) in
    let first : HasNoFeed (numbered (codes " merge ") f ++ three) =
    no-feed-append (numbered (codes " merge ") f) three (no-feed-numbered (codes " merge ") f refl)
    (no-feed-numbered (codes " ") (s / (span sizes + 1)) refl) in
    no-feed-append (numbered (codes " merge ") f ++ three) old first
    (no-feed-numbered (codes " ") (s % (span sizes + 1)) refl)
no-feed-phase sizes Halted = refl

line-colour : (v : ℕ) (node : Node) (f : ℕ) → IsLine (colour_text v node f)
line-colour v node f =
    let colour = numbered (codes " ") (slice_index node.colours f) in
    let first = numbered (codes "") v ++ numbered (codes " colour ") f in
    let begins : HasNoFeed first =
    no-feed-append (numbered (codes "") v) (numbered (codes " colour ") f) (no-feed-decimal v)
    (no-feed-numbered (codes " colour ") f refl) in
    line-behind (first ++ colour) (codes "\n")
    (no-feed-append first colour begins (no-feed-numbered (codes " ") (slice_index node.colours f) refl)) line-end

line-choice : (v : ℕ) (node : Node) → IsLine (choice_text v node)
line-choice v node =
    let chose = numbered (codes " chose ") node.merged in
    line-behind (numbered (codes "") v ++ chose) (codes "\n")
    (no-feed-append (numbered (codes "") v) chose (no-feed-decimal v)
    (no-feed-numbered (codes " chose ") node.merged refl)) line-end

lines-colours : (v : ℕ) (node : Node) → AreLines (colours_text v node)
lines-colours v node =
    lines-each (colour_text v node) (range_with_len 0 node.sizes.forests)
    (λ f. are-lines (colour_text v node f) (line-colour v node f))

lines-node : (phase : Phase) (v : ℕ) (node : Node) → AreLines (node_text phase v node)
lines-node Greet v node = inl refl
lines-node Orient v node = inl refl
lines-node Seed v node = lines-colours v node
lines-node (Work reduction) v node = lines-colours v node
lines-node (Merge f s) v node = lines-if (chooses node f s) (choice_text v node) (line-choice v node)
lines-node Halted v node = inl refl

pub colouring_lined : AreTexts colouring_texts
colouring_lined = record {
  name = refl;
  head = λ net.
      let last : ℕ = last_pulse_on colouring net in
      let plain : List ℕ = 1 ∷ count_of net ∷ greatest_degree_of net ∷ forest_count_of net ∷ last ∷ [] in
      let barred : List ℕ =
      2 ∷ count_of net ∷ greatest_degree_of net ∷ greatest_bars_of net ∷ forest_count_of net ∷ last ∷ [] in
      line-behind (codes "rounds ") (if greatest_bars_of net == 0 then row plain else row barred) refl
      (either-line (greatest_bars_of net == 0) (row plain) (row barred) (line-row plain) (line-row barred));
  phase = λ net p. no-feed-phase (sizes_of net) (phase_of (sizes_of net) p);
  lines = λ net p v node. lines-node (phase_of (sizes_of net) p) v node;
  result = λ net v node. no-feed-numbered (codes " channel ") (node.merged + 1) refl;
}
