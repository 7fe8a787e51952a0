-- What nodes with a given root answer, if their last states are for more than the program's texts say.
use Rattle.std.proofs.Common.{ℕ, List, Result, Ok, Err}
use Rattle.interference.specs.Net.{Net, IsNetwork, IsVertex}
use Rattle.node_api.specs.Program.{Program}
use Rattle.node_api.specs.Run.{last_state}
use Rattle.program_texts.specs.Texts.{ProgramTexts}
use Rattle.program_texts.specs.PayloadTexts.{PayloadTexts}
use Rattle.command_line.specs.declared.programs.Shown.TheVariants as shown
use Rattle.command_line.specs.declared.play_request.Play.{Play}
use Rattle.command_line.specs.declared.play_request.Play.TheVariants.{Alone, Ends, Events, Replay, Rounds, Run}
use Rattle.layers.specs.Layering.{layering}
use Rattle.layers.specs.Distances.{IsLayerFrom, IsRoot}
use Rattle.layers.specs.Texts.{KnowTheirLayersFrom, layers_texts, layers_texts_from}
use Rattle.play_inputs.proofs.Rooted.{root-has-id, rooted-vertex}
use Rattle.play_inputs.specs.Roots.{rooted}
use Rattle.play_inputs.specs.declared.fault.PlayFault.{PlayFault}
use Rattle.play_inputs.specs.declared.setting.Root.{Root}
use Rattle.play_inputs.specs.declared.setting.Setting.TheVariants.{Rooted}
use Rattle.play_commands.specs.Payloads.{layers_payloads}
use Rattle.play_commands.specs.Plays.{IsGoodPlay, MayPlay, layers_root}

module _ {S M E : Type 0} (program : Program S M E) (texts : ProgramTexts S) (payloads : PayloadTexts M) (root : Root)
    (Solves : Net → (ℕ → S) → Type 0)
    (solved : (net : Net) → IsVertex net root.vertex → IsNetwork (rooted root net) → Solves (rooted root net) (last_state program (rooted root net))) where
  -- the same texts, which are to say this
  abbrev other : ProgramTexts S
  other = record texts { Solves = Solves }

  good : (play : Play) (input answer : List ℕ) → IsGoodPlay program texts payloads (Rooted root) play input answer
      → IsGoodPlay program other payloads (Rooted root) play input answer
  good Events input answer (graph, reads, (vertex, (ok, reached, solves))) = (graph, reads, (vertex, (ok, reached, solved _ vertex ok)))
  good Replay input answer (graph, reads, (vertex, (ok, reached, solves, named))) =
      (graph, reads, (vertex, (ok, reached, solved _ vertex ok, named)))
  good Rounds input answer (graph, reads, (vertex, (ok, is, solves))) = (graph, reads, (vertex, (ok, is, solved _ vertex ok)))
  good (Run options shown.States) input answer (graph, reads, (vertex, (ok, is, solves))) =
      (graph, reads, (vertex, (ok, is, solved _ vertex ok)))
  good (Run options shown.Transcript) input answer is = is
  good (Alone shown.States) input answer (graph, reads, (vertex, (ok, is, solves))) = (graph, reads, (vertex, (ok, is, solved _ vertex ok)))
  good (Alone shown.Transcript) input answer is = is
  good Ends input answer (graph, reads, (vertex, (ok, is, solves))) = (graph, reads, (vertex, (ok, is, solved _ vertex ok)))

  pub plays : (play : Play) (input : List ℕ) (result : Result (List ℕ) PlayFault)
      → MayPlay program texts payloads (Rooted root) play input result
      → MayPlay program other payloads (Rooted root) play input result
  plays play input (Ok answer) may = good play input answer may
  plays Events input (Err fault) may = may
  plays Replay input (Err fault) may = may
  plays Rounds input (Err fault) may = may
  plays (Run options show) input (Err fault) may = may
  plays (Alone show) input (Err fault) may = may
  plays Ends input (Err fault) may = may

-- The layers, with this vertex as their root: their law says that the nodes know their distances from it.
module _ (vertex : ℕ) (law : (net : Net) → IsNetwork net → (root : ℕ) → IsRoot net root → (v : ℕ) → IsVertex net v
    → IsLayerFrom net root v (last_state layering net v).layer) where
  know : (net : Net) → IsVertex net vertex → IsNetwork (rooted (layers_root vertex) net)
      → KnowTheirLayersFrom vertex (rooted (layers_root vertex) net) (last_state layering (rooted (layers_root vertex) net))
  know net is ok =
      let root = layers_root vertex in
      λ u is_u. law (rooted root net) ok vertex (rooted-vertex root net vertex is, root-has-id root net is) u is_u

  pub layers-play : (play : Play) (input : List ℕ) (result : Result (List ℕ) PlayFault)
      → MayPlay layering layers_texts layers_payloads (Rooted (layers_root vertex)) play input result
      → MayPlay layering (layers_texts_from vertex) layers_payloads (Rooted (layers_root vertex)) play input result
  layers-play = plays layering layers_texts layers_payloads (layers_root vertex) (KnowTheirLayersFrom vertex) know
