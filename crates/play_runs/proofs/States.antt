-- The lines of last states, one vertex after the other.
use Rattle.std.proofs.Common.{◌≡◌, ◌∙◌, ◌<◌, ◌+◌, ◌++◌, ℕ, List, [], ap, ap₂, arith, flat_map, get_or, length}
use Rattle.std.specs.List.{range_with_len}
use Rattle.std.proofs.lemmas.List.FromFn.{get_or-map-range_with_len, length-map-range_with_len}
use Rattle.number_rows.proofs.Ranges.{texts-more}
use Rattle.interference.specs.Net.{Net, count_of}
use Rattle.node_api.specs.Program.{Program, last_pulse_on}
use Rattle.node_api.specs.Run.{last_state, last_states}
use Rattle.program_texts.specs.Texts.{ProgramTexts}
use Rattle.play_runs.specs.Ends.{end_line}

module _ {S M E : Type 0} (program : Program S M E) (net : Net) (nodes : List S) (states : nodes ≡ last_states program net) where
  pub many : length nodes ≡ count_of net
  many = ap length states ∙ length-map-range_with_len (last_state program net) 1 (count_of net)

  state-at : (i : ℕ) (node : S) → i < count_of net → node ≡ get_or nodes i node → node ≡ last_state program net (i + 1)
  state-at i node lt is =
      let one : 1 + i ≡ i + 1 = omega arith in
      is ∙ ap (λ all. get_or all i node) states
      ∙ get_or-map-range_with_len (last_state program net) 1 (count_of net) i (i + 1) node lt one

  module _ (texts : ProgramTexts S) where
    abbrev line : ℕ → List ℕ
    line v = end_line texts net v (last_pulse_on program net) (last_state program net v)

    pub line-more : (i last : ℕ) (node : S) (so_far next : List ℕ) → i < count_of net → node ≡ get_or nodes i node → last ≡ last_pulse_on program net
        → so_far ≡ flat_map line (range_with_len 1 i) → next ≡ so_far ++ end_line texts net (i + 1) last node
        → next ≡ flat_map line (range_with_len 1 (i + 1))
    line-more i last node so_far next lt is end before after =
        let one : 1 + i ≡ i + 1 = omega arith in
        texts-more line 1 i (i + 1) [] so_far next one before
        (after ∙ ap₂ (λ p s. so_far ++ end_line texts net (i + 1) p s) end (state-at i node lt is))
