-- The plan: a vertex and its identifier are one of the pairs given (named), so the vertex is one of the list; and the pair
-- written is put before those that were written (one-given, one-more).
use Rattle.std.proofs.Common.{◌≡◌, ◌∙◌, ◌<◌, ◌≤◌, ◌-◌, ◌+◌, ℕ, ap, sym, arith, drop, length, set, ◌∷◌, slice_index_or}
use Rattle.std.specs.List.{range_with_len}
use Rattle.std.specs.Option.{unwrap_or}
use Rattle.std.proofs.lemmas.List.{drop_more}
use Rattle.std.proofs.lemmas.List.Elements.{Contains-get_or}
use Rattle.std.proofs.lemmas.List.FromFn.{length-map-range_with_len}
use Rattle.std.proofs.Math.Seq.{drop-length}
use Rattle.dimacs_col.specs.Reading.{id_in}
use Rattle.plan_answers.specs.Answers.{identifiers_with}
use Rattle.plan_answers.proofs.GivenIds.{none-given, one-given}
use Rattle.plan_answers.proofs.answer.identifiers.Goals as goal
use Rattle.plan_answers.proofs.answer.identifiers.Goals.{In-loop-written}

abbrev pair : In-loop-written → ℕ × ℕ
pair c = slice_index_or c.args.given.now (length c.args.given.now - 1 - c.loop-written.written) (0, 0)

named : (c : In-loop-written) → (0 < (pair c).0) × ((pair c).0 ≤ c.args.nodes)
named c = c.requires (pair c) (Contains-get_or c.args.given.now (length c.args.given.now - 1 - c.loop-written.written) (0, 0)
    (omega (arith, c.loop-written-test.true)))

one-more : (c : In-loop-written) →
    drop (length c.args.given.now - (c.loop-written.written + 1)) c.args.given.now ≡
    pair c ∷ drop (length c.args.given.now - c.loop-written.written) c.args.given.now
one-more c =
    let given = c.args.given.now in
    let at : length given - (c.loop-written.written + 1) ≡ length given - 1 - c.loop-written.written = omega (arith, c.loop-written-test.true) in
    let next : length given - 1 - c.loop-written.written + 1 ≡ length given - c.loop-written.written = omega (arith, c.loop-written-test.true) in
    ap (λ i. drop i given) at ∙
    drop_more given (length given - 1 - c.loop-written.written) (0, 0) (omega (arith, c.loop-written-test.true)) ∙
    ap (λ i. pair c ∷ drop i given) next

pub loop-written-init : goal.loop-written-init
loop-written-init c =
    let whole : length c.args.given.now - 0 ≡ length c.args.given.now = omega arith in
    c.in_ok-ids.ensures ∙ sym (ap (λ n. identifiers_with (drop n c.args.given.now) c.args.nodes) whole ∙
    ap (λ ids. identifiers_with ids c.args.nodes) (drop-length c.args.given.now) ∙ none-given (range_with_len 1 c.args.nodes))

pub overflow_sub-v-in-loop-written-2 : goal.overflow_sub-v-in-loop-written-2
overflow_sub-v-in-loop-written-2 c = omega (arith, (named (goal.at.overflow_sub-v-in-loop-written-2 c).In-loop-written).0)

pub index_mut-requires : goal.index_mut-requires
index_mut-requires c =
    let at = (goal.at.index_mut-requires c).In-loop-written in
    let long : length c.loop-written.ids.items ≡ c.args.nodes =
    ap length c.loop-written.invariant ∙
    length-map-range_with_len (λ v. unwrap_or (id_in (drop (length c.args.given.now - c.loop-written.written) c.args.given.now) v) v) 1 c.args.nodes in
    omega (arith, long, (named at).0, (named at).1)

pub loop-written-preserved : goal.loop-written-preserved
loop-written-preserved c =
    let at = (goal.at.loop-written-preserved c).In-loop-written in
    let written = drop (length c.args.given.now - c.loop-written.written) c.args.given.now in
    ap (λ ids. set ids ((pair at).0 - 1) (pair at).1) c.loop-written.invariant ∙
    one-given written c.args.nodes (pair at).0 (pair at).1 (named at).0 (named at).1 ∙
    ap (λ ids. identifiers_with ids c.args.nodes) (sym (one-more at))
