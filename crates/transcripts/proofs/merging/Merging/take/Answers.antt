use Rattle.std.proofs.Common.{◌<◌, ◌∷◌, arith, drop, length, refl}
use Rattle.std.specs.BinaryHeap.{heap_items}
use Rattle.std.specs.List.Sorted.{IsPermutation}
use Rattle.std.proofs.lemmas.Bool.{false≢true}
use Rattle.transcripts.proofs.TopKeys.{keys_after, none_left, starts_within, top_first, top_some, top_starts, top_taken}
use Rattle.transcripts.proofs.merging.Merging.take.Goals as goal
use Rattle.transcripts.proofs.merging.Merging.take.Goals.{In_ok-index}

-- the key on top, and those behind it
first : (g : _) (c : In_ok-index g) → IsPermutation (heap_items c.args.self.now.keys) (c.in_ok-index.field-0.now ∷ drop 1 (heap_items c.args.self.now.keys))
first g c =
    let some = c.in_ok-index.ensures.variant.0 refl in
    let size = c.args.self.now.keys.data.ok.0 in
    top_first (heap_items c.args.self.now.keys) c.in_ok-index.field-0.now (omega (arith, some, size)) c.in_ok-index.ensures.lookup

-- its index is that of a node
in_range : (g : _) (c : In_ok-index g) → c.in_ok-index.field-0.now.0.1 < length c.args.self.now.lefts.items
in_range g c =
    let x = c.in_ok-index.field-0.now in
    let keys = heap_items c.args.self.now.keys in
    let lists = c.args.self.now.lefts.items in
    starts_within lists x.0.1 x.0.0 (top_starts lists keys (drop 1 keys) x c.requires.keys (first g c))

pub returns-in_err-index-clause-taken : goal.returns-in_err-index-clause-taken
returns-in_err-index-clause-taken g c =
    let size = c.args.self.now.keys.data.ok.0 in
    rw c.from_residual.ensures (none_left c.args.self.now.lefts.items (heap_items c.args.self.now.keys) c.requires.keys
    (λ some. false≢true (c.in_err-index.ensures.variant.1 (omega (arith, some, size)))))

pub index_mut-left-requires : goal.index_mut-left-requires
index_mut-left-requires g c =
    let within = in_range g (goal.at.index_mut-left-requires g c).In_ok-index in
    let size = c.args.self.now.lefts.ok.0 in
    omega (arith, within, size)

pub returns-in_err-first-clause-keys : goal.returns-in_err-first-clause-keys
returns-in_err-first-clause-keys g c =
    let keys = heap_items c.args.self.now.keys in
    absurd (top_some c.args.self.now.lefts.items keys (drop 1 keys) c.in_ok-index.field-0.now c.index_mut-left.result.now c.requires.keys
    (first g (goal.at.returns-in_err-first-clause-keys g c).In_ok-index) c.index_mut-left.ensures.value c.in_err-first.ensures)

pub returns-in_err-first-clause-taken : goal.returns-in_err-first-clause-taken
returns-in_err-first-clause-taken g c =
    let keys = heap_items c.args.self.now.keys in
    absurd (top_some c.args.self.now.lefts.items keys (drop 1 keys) c.in_ok-index.field-0.now c.index_mut-left.result.now c.requires.keys
    (first g (goal.at.returns-in_err-first-clause-taken g c).In_ok-index) c.index_mut-left.ensures.value c.in_err-first.ensures)

pub overflow_add-result : goal.overflow_add-result
overflow_add-result g c = let within = in_range g (goal.at.overflow_add-result g c).In_ok-index in let few = c.requires.few in omega (arith, within, few)

pub overflow_cast-result : goal.overflow_cast-result
overflow_cast-result g c = let within = in_range g (goal.at.overflow_cast-result g c).In_ok-index in let few = c.requires.few in omega (arith, within, few)

pub returns-clause-keys : goal.returns-clause-keys
returns-clause-keys g c =
    let at = (goal.at.returns-clause-keys g c).In_ok-index in
    let keys = heap_items c.args.self.now.keys in
    keys_after c.args.self.now.lefts.items keys (drop 1 keys) (heap_items c.replace_top.new.keys) c.in_ok-index.field-0.now c.take.new.self
    c.requires.keys (first g at) (in_range g at) c.replace_top.ensures.replaced (c.replace_top.ensures.heap c.requires.keys.heap)

pub returns-clause-taken : goal.returns-clause-taken
returns-clause-taken g c =
    let keys = heap_items c.args.self.now.keys in
    top_taken c.args.self.now.lefts.items keys (drop 1 keys) c.in_ok-index.field-0.now c.index_mut-left.result.now c.take.new.self
    c.in_ok-first.first.stamp c.in_ok-first.first.entry c.requires.keys (first g (goal.at.returns-clause-taken g c).In_ok-index)
    (c.in_ok-index.ensures.greatest c.requires.keys.heap) c.index_mut-left.ensures.value c.in_ok-first.ensures
