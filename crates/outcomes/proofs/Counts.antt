-- The wires of a whole outcome. Plan: the list of each link is complete, so the lists by vertex and port are counted; the rows of
-- the outcome are the vertices, and their entries the ports.
use Rattle.std.proofs.Common.{◌≡◌, ℕ, true, Bool, length, sym, ◌∙◌, arith}
use Rattle.std.specs.List.{sum_by}
use Rattle.std.proofs.lemmas.List.{length-map}
use Rattle.std.proofs.lemmas.List.FromFn.{length-range_with_len}
use Rattle.interference.specs.Net.{Net, IsNetwork, count_of}
use Rattle.interference.specs.Counts.{sum_over_ports}
use Rattle.node_api.specs.Program.{Program}
use Rattle.wires.specs.StampedWires.{wires_of}
use Rattle.wires.specs.Wires.{payloads_of}
use Rattle.alpha_laws.proofs.Counts.{lists_counted}
use Rattle.alpha_laws.proofs.Sums.{by_ports}
use Rattle.outcomes.specs.Outcome.{History, Outcome, IsOutcome, is_whole, link_in, no_history, put_by}
use Rattle.outcomes.specs.Counts.{WiresAreCounted}
use Rattle.outcomes.proofs.Whole.{complete_run}

module _ {S M E : Type 0} (program : Program S M E) (net : Net) (ok : IsNetwork net) (capacity : ℕ) (transcript : Bool) (outcome : Outcome S M)
    (is : IsOutcome program net capacity transcript outcome) (whole : is_whole outcome ≡ true) where
  rows_by_ports : (f : History M → ℕ) → sum_by (λ row. sum_by f row) outcome.links ≡ sum_over_ports net (λ v i. f (link_in outcome v i))
  rows_by_ports f = by_ports net f outcome.links no_history (is.rows ∙ length-range_with_len 1 (count_of net)) is.row

  pub counted : WiresAreCounted program net outcome
  counted =
      let run = complete_run program net ok capacity transcript outcome is whole in
      let lists = lists_counted program net ok (put_by outcome) run.complete in
      let payloads = rows_by_ports (λ h. length (payloads_of (wires_of h.put))) in
      let wires = rows_by_ports (λ h. length h.put) ∙ (λ k. sum_over_ports net (λ v i. sym (length-map (link_in outcome v i).put (λ x. x.wire)) k)) in
      record { payloads = payloads ∙ lists.0; wires = omega (arith, payloads, wires, lists.1) }
