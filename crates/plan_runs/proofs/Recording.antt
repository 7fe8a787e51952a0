-- The transcript of a whole run, and what it answers to an input.
use Rattle.std.proofs.Common.{◌≡◌, ◌-◌, ◌∙◌, [], ℕ, suc, All, Bool, List, ap, arith, length, map, refl, slice_index_or, subst, sym, true}
use Rattle.std.proofs.lemmas.List.{length-map}
use Rattle.std.proofs.lemmas.List.FromFn.{length-range_with_len}
use Rattle.std.proofs.lemmas.List.Elements.{All-from_get_or}
use Rattle.interference.specs.Net.{Net, IsNetwork, count_of}
use Rattle.node_api.specs.Program.{Program}
use Rattle.outcomes.specs.Outcome.{Outcome, IsOutcome, entries_in, is_whole}
use Rattle.outcomes.specs.Merged.{WholeOutcomesReplay}
use Rattle.run_options.specs.declared.Edition.{Edition}
use Rattle.run_options.specs.declared.Edition.TheVariants as edition
use Rattle.stamps.specs.Merged.{IsMerge}
use Rattle.stamps.specs.Stamps.{Rises}
use Rattle.program_texts.specs.PayloadTexts.{PayloadTexts}
use Rattle.plan_answers.specs.Answers.{ReadsAs}
use Rattle.plan_runs.specs.Transcripts.{IsMergedText, IsMergedTranscriptOf, IsTextIn, IsTranscriptOf, IsTranscriptOn, entries_text}

-- what holds of the network that was read is said of the input
pub read-as : (input : List ℕ) (net : Net) (Q : Net → Type 0) → ReadsAs input (λ read. IsNetwork read × (net ≡ read)) → Q net
    → ReadsAs input (λ read. IsNetwork read × Q read)
read-as input net Q (graph, reads, is) holds = (graph, reads, (is.0, subst Q is.1 holds))

-- there are as many nodes as vertices
pub nodes-count : {S M E : Type 0} (program : Program S M E) (net : Net) (capacity : ℕ) (transcript : Bool) (outcome : Outcome S M)
    → IsOutcome program net capacity transcript outcome → length outcome.nodes ≡ count_of net
nodes-count program net capacity transcript outcome is =
    sym (length-map outcome.nodes (λ g. g.vertex)) ∙ ap length is.each_once ∙ length-range_with_len 1 (count_of net)

module _ {S M E : Type 0} (program : Program S M E) (net : Net) (capacity : ℕ) (outcome : Outcome S M)
    (is : IsOutcome program net capacity true outcome) where
  -- the stamps of each node rise, in a list of all nodes
  pub all-rise : All Rises (map (λ node. node.entries) outcome.nodes)
  all-rise =
      All-from_get_or Rises (map (λ node. node.entries) outcome.nodes) [] (λ i lt.
      let few = nodes-count program net capacity true outcome is in
      let same = length-map outcome.nodes (λ node. node.entries) in
      let back : suc i - 1 ≡ i = omega arith in
      subst (λ k. Rises (slice_index_or (map (λ node. node.entries) outcome.nodes) k [])) back
      (is.rises refl (suc i) (omega arith, omega (arith, lt, few, same))))

module _ {S M E : Type 0} (program : Program S M E) (payloads : PayloadTexts M) (words text : List ℕ) (net : Net) (capacity : ℕ)
    (outcome : Outcome S M) (is : IsOutcome program net capacity true outcome) (whole : is_whole outcome ≡ true) where
  recorded : text ≡ entries_text payloads (count_of net) outcome.nodes → IsTranscriptOf program payloads net text
  recorded told = record { capacity = capacity; outcome = outcome; is_outcome = is; whole = whole; is_text = told }

  merged : IsMergedText payloads words (count_of net) outcome.nodes text → WholeOutcomesReplay program net
      → IsMergedTranscriptOf program payloads words net text
  merged (rows, merge, told) law =
      let all = subst (λ n. IsMerge n (entries_in outcome) rows) (nodes-count program net capacity true outcome is) merge in
      let played = law capacity outcome is whole rows all in
      record {
        capacity = capacity;
        outcome = outcome;
        is_outcome = is;
        whole = whole;
        rows = rows;
        merge = all;
        last = played.0;
        is_replay = played.1;
        is_text = told;
      }

  -- the text in an edition is the transcript
  pub answered : (edition : Edition) → WholeOutcomesReplay program net → IsTextIn payloads words edition (count_of net) outcome.nodes text
      → IsTranscriptOn program payloads words edition net text
  answered edition.One law told = recorded told
  answered edition.Two law told = merged told law
