-- The lines of the nodes that a whole run left are those of the last states of the synchronous run.
use Rattle.std.proofs.Common.{◌≡◌, ◌∙◌, ℕ, suc, ◌+◌, ◌-◌, ◌<◌, [], Bool, List, ap, ap₂, arith, flat_map, get_or, length, map, subst, sym}
use Rattle.std.specs.Prelude.{All}
use Rattle.std.proofs.lemmas.List.{get_or-map, length-map, same_lists}
use Rattle.std.proofs.lemmas.List.Folds.{flat_map-map}
use Rattle.std.proofs.lemmas.List.FromFn.{get_or-map-range_with_len, get_or-range_with_len, length-map-range_with_len}
use Rattle.dimacs_col.specs.Lines.{lines_of}
use Rattle.plan_answers.specs.Answers.{ReadsAs}
use Rattle.play_inputs.specs.Settings.{OfSet}
use Rattle.play_inputs.specs.declared.setting.Setting.{Setting}
use Rattle.play_inputs.proofs.Settings.{lines-more}
use Rattle.program_texts.specs.Texts.{ProgramTexts}
use Rattle.interference.specs.Net.{Net, IsNetwork, IsVertex, count_of, vertices}
use Rattle.node_api.specs.Program.{Program, last_pulse_on}
use Rattle.node_api.specs.Run.{last_state}
use Rattle.alpha_laws.specs.Progress.{end_node}
use Rattle.outcomes.specs.Outcome.{Gathered, IsOutcome, Outcome, node_in, start_of}
use Rattle.play_runs.specs.Ends.{IsEndsAnswer, end_line, ends_text, gathered_end, node_end}
use Rattle.plan_runs.proofs.Recording.{nodes-count}

-- what holds of all results of a function holds of each
pub all-at : {A B : Type 0} (P : B → Type 0) (f : A → B) (xs : List A) (k : ℕ) (d : A) → k < length xs → All P (map f xs) → P (f (get_or xs k d))
all-at P f xs k d lt all = subst P (get_or-map f xs k d (f d) lt) (all k (f d) (omega (arith, lt, length-map xs f)))

-- the nodes are the vertices
pub are-vertices : {S M E : Type 0} (program : Program S M E) (net : Net) (capacity : ℕ) (transcript : Bool) (outcome : Outcome S M)
    → IsOutcome program net capacity transcript outcome → All (λ g. IsVertex net g.vertex) outcome.nodes
are-vertices program net capacity transcript outcome is k d lt =
    let n = count_of net in
    let size = nodes-count program net capacity transcript outcome is in
    let below : k < n = omega (arith, lt, size) in
    let vertex : (get_or outcome.nodes k d).vertex ≡ 1 + k =
    sym (get_or-map (λ g. g.vertex) outcome.nodes k d 0 lt) ∙ ap (λ vs. get_or vs k 0) is.each_once ∙ get_or-range_with_len 1 n k 0 below in
    (omega (arith, vertex), omega (arith, vertex, below))

module _ {S M E : Type 0} (program : Program S M E) (texts : ProgramTexts S) (net : Net) (capacity : ℕ) (transcript : Bool) (outcome : Outcome S M)
    (is : IsOutcome program net capacity transcript outcome) (ended : (v : ℕ) → IsVertex net v → node_in program net outcome v ≡ end_node program net v) where
  abbrev line_of : ℕ → List ℕ
  line_of v = end_line texts net v (last_pulse_on program net) (last_state program net v)

  -- node k is that of vertex k + 1, at the end
  line_at : (k : ℕ) (d : List ℕ) → k < length (map (gathered_end texts net) outcome.nodes)
      → get_or (map (gathered_end texts net) outcome.nodes) k d ≡ get_or (map line_of (vertices net)) k d
  line_at k d lt =
      let n = count_of net in
      let size = nodes-count program net capacity transcript outcome is in
      let many = length-map outcome.nodes (gathered_end texts net) in
      let within : k < length outcome.nodes = omega (arith, lt, many) in
      let below : k < n = omega (arith, within, size) in
      let back : suc k - 1 ≡ k = omega arith in
      let one : 1 + k ≡ suc k = omega arith in
      let start : Gathered S M = record { vertex = suc k; alpha = start_of program net (suc k); entries = [] } in
      let vertex : (get_or outcome.nodes k start).vertex ≡ suc k =
      sym (get_or-map (λ g. g.vertex) outcome.nodes k start 0 within) ∙ ap (λ vs. get_or vs k 0) is.each_once
      ∙ get_or-range_with_len 1 n k 0 below ∙ one in
      let node : (get_or outcome.nodes k start).alpha.node ≡ end_node program net (suc k) =
      ap (λ alpha. alpha.node) (sym (get_or-map (λ g. g.alpha) outcome.nodes k start (start_of program net (suc k)) within)
      ∙ ap (λ j. get_or (map (λ g. g.alpha) outcome.nodes) j (start_of program net (suc k))) (sym back))
      ∙ ended (suc k) (omega arith, omega (arith, below)) in
      get_or-map (gathered_end texts net) outcome.nodes k start d within
      ∙ ap₂ (node_end texts net) vertex node
      ∙ sym (get_or-map-range_with_len line_of 1 n k (suc k) d below (omega arith))

  pub ends-are : flat_map (gathered_end texts net) outcome.nodes ≡ ends_text program texts net
  ends-are =
      let n = count_of net in
      let size = nodes-count program net capacity transcript outcome is in
      let lines = same_lists (map (gathered_end texts net) outcome.nodes) (map line_of (vertices net))
      (length-map outcome.nodes (gathered_end texts net) ∙ size ∙ sym (length-map-range_with_len line_of 1 n)) line_at in
      sym (flat_map-map (λ line. line) (gathered_end texts net) outcome.nodes) ∙ ap (flat_map (λ line. line)) lines
      ∙ flat_map-map (λ line. line) line_of (vertices net)

  pub ends-answer : (setting : Setting) (input text : List ℕ) → ReadsAs input (OfSet setting (λ read. IsNetwork read × (net ≡ read)))
      → text ≡ flat_map (gathered_end texts net) outcome.nodes
      → ((net : Net) → IsNetwork net → texts.Solves net (last_state program net)) → IsEndsAnswer program texts setting input text
  ends-answer setting input text reads told solves =
      lines-more setting (lines_of input) (λ read. IsNetwork read × (net ≡ read))
      (λ read. IsNetwork read × (text ≡ ends_text program texts read) × texts.Solves read (last_state program read))
      (λ read both. (both.0, told ∙ ends-are ∙ ap (ends_text program texts) both.1, solves read both.0)) reads
