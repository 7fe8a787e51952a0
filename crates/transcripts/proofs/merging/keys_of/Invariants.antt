use Rattle.std.proofs.Common.{take}
use Rattle.std.specs.BinaryHeap.{heap_items}
use Rattle.transcripts.specs.Merge.{AreKeys}
use Rattle.transcripts.proofs.merging.keys_of.Given as goal

-- the keys of the lists so far
abbrev pub invariant-loop-index : goal.invariant-loop-index
invariant-loop-index g l = AreKeys (take l.index l.lefts) (heap_items l.keys)
