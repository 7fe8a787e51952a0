use Rattle.std.proofs.Common.{ap, length, sym, ◌∙◌}
use Rattle.std.proofs.lemmas.List.{length-map}
use Rattle.std.proofs.lemmas.List.FromFn.{length-range_with_len}
use Rattle.worker_checks.proofs.stopped_checks.leaves.Goals as goal

pub are_at_start-requires : goal.are_at_start-requires
are_at_start-requires g c = record {
  nodes = sym (length-map _ (λ n. n.vertex)) ∙ ap (λ l. length l) c.in-Ok.ensures.outcome.each_once ∙ length-range_with_len 1 _;
}
