use Rattle.std.proofs.Common.{◌∙◌, ◌++◌, ◌∷◌, [], arith, ap, refl, rules, subst, sym, take}
use Rattle.std.specs.BinaryHeap.{heap_items}
use Rattle.std.proofs.lemmas.List.{length-take-le, take_more}
use Rattle.transcripts.specs.Merge.{AreKeys, IsKeyAdded}
use Rattle.transcripts.proofs.Keys.{keys_more, no_keys}
use Rattle.transcripts.proofs.merging.keys_of.Goals as goal

-- no keys of no lists
pub loop-index-init : goal.loop-index-init
loop-index-init g c = no_keys _ (heap_items c.new-keys.result) refl c.new-keys.ensures.items (search rules)

-- the key of one list more
pub loop-index-preserved : goal.loop-index-preserved
loop-index-preserved g c =
    let lefts = c.args.lefts.now in
    let i = c.loop-index.index in
    let left = c.index-lefts-index.result in
    let old = heap_items c.loop-index.keys in
    let new = heap_items c.push_key.new.keys in
    let pushed = c.in_ok-push_key.ensures in
    let lt = c.loop-index-test.true in
    let many = length-take-le i lefts (omega (arith, lt)) in
    subst (λ l. AreKeys l new) (ap (λ l. take i lefts ++ (l ∷ [])) c.index-lefts-index.is ∙ sym (take_more lefts i left lt))
    (keys_more (take i lefts) left old new c.loop-index.invariant (subst (λ n. IsKeyAdded left n old new) (sym many) pushed.added)
    (pushed.heap c.loop-index.invariant.heap))
