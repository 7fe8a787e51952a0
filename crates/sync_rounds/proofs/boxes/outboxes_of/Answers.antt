use Rattle.std.proofs.Common.{◌≡◌, ◌+◌, ℕ, List, length, get_or, refl, ap, sym, ◌∙◌, subst, arith, falls}
use Rattle.std.specs.Prelude.{Option, false}
use Rattle.std.proofs.lemmas.List.{get_or_read, length_push}
use Rattle.node_api.specs.Boxes.{nothing}
use Rattle.interference.specs.Net.{degree_of, greatest_degree_of}
use Rattle.interference.proofs.Neighbours.{degree-within, greatest_degree-within}
use Rattle.sync_rounds.proofs.Bounds.{none_below, upto_greatest}
use Rattle.sync_rounds.proofs.Resting.{outboxes-push}
use Rattle.sync_rounds.proofs.boxes.outboxes_of.Goals as goal

pub overflow_add-degree-end : goal.overflow_add-degree-end
overflow_add-degree-end g c =
    let end = c.greatest_degree-degree-end.ensures in omega (arith, end.value, greatest_degree-within c.args.net.now end.network)

pub loop-degree-init : goal.loop-degree-init
loop-degree-init g c = record {
  size = ap length c.new-outs.ensures.items;
  empty = λ k d low. none_below k low;
}

pub index-requires : goal.index-requires
index-requires g c =
    upto_greatest c.loop-degree.degree c.greatest_degree-degree-end.result _ _ _ c.loop-degree-test.true c.greatest_degree-degree-end.ensures.value
    c.in_ok-occurs.ensures.size c.in_ok-occurs.occurs.ok.0

pub loop-degree-smaller : goal.loop-degree-smaller
loop-degree-smaller g c = falls _ _ c.loop-degree-test.true

pub loop-degree-preserved : goal.loop-degree-preserved
loop-degree-preserved g c =
    let inv = c.loop-degree.invariant in
    let occurs = c.in_ok-occurs.occurs.items in
    let pushed = c.in_ok-push.ensures.items in
    let below = upto_greatest c.loop-degree.degree c.greatest_degree-degree-end.result _ _ (length occurs) c.loop-degree-test.true
    c.greatest_degree-degree-end.ensures.value c.in_ok-occurs.ensures.size refl in
    let read = get_or_read occurs c.loop-degree.degree c.index.result.now below c.index.ensures false in
    record {
      size = ap length pushed ∙ (length_push c.loop-degree.outs.items c.in_ok-outbox_if.field-0 ∙ ap (λ (n : ℕ). n + 1) inv.size);
      empty = λ k d low is. subst (λ (outs : List (List (Option g.row.T.Denot))). get_or outs k d ≡ nothing k) (sym pushed)
          (outboxes-push c.loop-degree.degree occurs c.loop-degree.outs.items c.in_ok-outbox_if.field-0 inv.size inv.empty
          (λ it. c.in_ok-outbox_if.ensures.empty (read ∙ it)) k d low is);
    }

pub outbox_if-requires : goal.outbox_if-requires
outbox_if-requires g c =
    let end = c.greatest_degree-degree-end.ensures in
    record { degree = omega (arith, c.loop-degree-test.true, end.value, greatest_degree-within c.args.net.now end.network) }

pub returns : goal.returns
returns g c =
    let net = c.args.net.now in
    let ok = c.greatest_degree-degree-end.ensures.network in
    let last : c.loop-degree.degree ≡ greatest_degree_of net + 1 = omega (arith, c.greatest_degree-degree-end.ensures.value) in
    record {
      outs = record {
        within = λ v is_vertex. omega (arith, c.loop-degree.invariant.size, last, degree-within net ok v);
        empty = λ v d is_vertex.
            c.loop-degree.invariant.empty (degree_of net v) d (omega (arith, last, degree-within net ok v))
            (c.in_ok-occurs.ensures.occurs v is_vertex is_vertex.1);
      };
    }
