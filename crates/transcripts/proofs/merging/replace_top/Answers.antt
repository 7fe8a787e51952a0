use Rattle.std.proofs.Common.{drop, rules}
use Rattle.std.specs.BinaryHeap.{heap_items}
use Rattle.std.proofs.lemmas.List.Sorted.{IsPermutation-cons, IsPermutation-trans}
use Rattle.transcripts.specs.Merge.{Key}
use Rattle.transcripts.proofs.Keys.{key_added, none_added}
use Rattle.transcripts.proofs.merging.replace_top.Goals as goal

-- the new key is put to those behind the top
pub returns-in-Some-stamp-clause-replaced : goal.returns-in-Some-stamp-clause-replaced
returns-in-Some-stamp-clause-replaced g c =
    let behind = drop 1 (heap_items c.args.keys.now) in
    let x : Key = record { 0 = (c.in-Some-stamp.stamp, c.args.index) } in
    let same = IsPermutation-trans _ _ _ (IsPermutation-cons x _ _ c.in-Some.ensures.rest) (c.drop-top.ensures.permutation (search rules)) in
    let added = key_added c.args.left.now c.in-Some-stamp.stamp c.args.index behind _ c.in-Some-stamp.ensures same in
    search rules

-- those behind the top are left
pub returns-in-None-clause-replaced : goal.returns-in-None-clause-replaced
returns-in-None-clause-replaced g c =
    let behind = drop 1 (heap_items c.args.keys.now) in
    let same = IsPermutation-trans _ _ _ c.in-Some.ensures.rest c.pop.ensures.permutation in
    let added = none_added c.args.left.now c.args.index behind _ c.in-None.ensures same in
    search rules
