-- The lines of nodes that have ended are those of the last states of the synchronous run.
use Rattle.std.proofs.Common.{◌≡◌, ◌∙◌, ℕ, suc, ◌+◌, ◌<◌, List, ap, arith, flat_map, get_or, length, map, sym}
use Rattle.std.proofs.lemmas.List.{same_lists}
use Rattle.std.proofs.lemmas.List.Folds.{flat_map-map}
use Rattle.std.proofs.lemmas.List.FromFn.{get_or-map-range_with_len, length-map-range_with_len}
use Rattle.dimacs_col.specs.Lines.{lines_of}
use Rattle.plan_answers.specs.Answers.{ReadsAs}
use Rattle.play_inputs.specs.Settings.{OfSet}
use Rattle.play_inputs.specs.declared.setting.Setting.{Setting}
use Rattle.play_inputs.proofs.Settings.{lines-more}
use Rattle.program_texts.specs.Texts.{ProgramTexts}
use Rattle.interference.specs.Net.{Net, IsNetwork, IsVertex, count_of, vertices}
use Rattle.node_api.specs.Program.{Program, last_pulse_on}
use Rattle.node_api.specs.Run.{last_state}
use Rattle.alpha_core.specs.View.{Node}
use Rattle.alpha_laws.specs.Progress.{end_node}
use Rattle.play_runs.specs.Ends.{IsEndsAnswer, end_line, ends_text, node_end}

module _ {S M E : Type 0} (program : Program S M E) (texts : ProgramTexts S) (net : Net) (nodes : ℕ → Node S M)
    (ended : (v : ℕ) → IsVertex net v → nodes v ≡ end_node program net v) where
  abbrev left : ℕ → List ℕ
  left v = node_end texts net v (nodes v)

  abbrev line_of : ℕ → List ℕ
  line_of v = end_line texts net v (last_pulse_on program net) (last_state program net v)

  line_at : (k : ℕ) (d : List ℕ) → k < length (map left (vertices net))
      → get_or (map left (vertices net)) k d ≡ get_or (map line_of (vertices net)) k d
  line_at k d lt =
      let n = count_of net in
      let below : k < n = omega (arith, lt, length-map-range_with_len left 1 n) in
      let place : 1 + k ≡ suc k = omega arith in
      get_or-map-range_with_len left 1 n k (suc k) d below place
      ∙ ap (node_end texts net (suc k)) (ended (suc k) (omega arith, omega (arith, below)))
      ∙ sym (get_or-map-range_with_len line_of 1 n k (suc k) d below place)

  ends-are : flat_map left (vertices net) ≡ ends_text program texts net
  ends-are =
      let n = count_of net in
      let lines = same_lists (map left (vertices net)) (map line_of (vertices net))
      (length-map-range_with_len left 1 n ∙ sym (length-map-range_with_len line_of 1 n)) line_at in
      sym (flat_map-map (λ line. line) left (vertices net)) ∙ ap (flat_map (λ line. line)) lines ∙ flat_map-map (λ line. line) line_of (vertices net)

  pub ends-answer : (setting : Setting) (input text : List ℕ) → ReadsAs input (OfSet setting (λ read. IsNetwork read × (net ≡ read)))
      → text ≡ flat_map left (vertices net)
      → ((net : Net) → IsNetwork net → texts.Solves net (last_state program net)) → IsEndsAnswer program texts setting input text
  ends-answer setting input text reads told solves =
      lines-more setting (lines_of input) (λ read. IsNetwork read × (net ≡ read))
      (λ read. IsNetwork read × (text ≡ ends_text program texts read) × texts.Solves read (last_state program read))
      (λ read both. (both.0, told ∙ ends-are ∙ ap (ends_text program texts) both.1, solves read both.0)) reads
