use Rattle.std.proofs.Common.{length}
use Rattle.std.specs.BinaryHeap.{heap_items}
use Rattle.std.specs.List.{sum_by}
use Rattle.program_texts.specs.PayloadTexts.{payload_texts}
use Rattle.transcripts.specs.Merge.{AreKeys}
use Rattle.transcripts.proofs.Merge.{HasMerged}
use Rattle.transcripts.proofs.pushing.push_merged.Given as goal

-- the rows so far, whose lines the text has
abbrev pub invariant-loop-row : goal.invariant-loop-row
invariant-loop-row g l = record {
  keys : AreKeys l.merging.lefts.items (heap_items l.merging.keys);
  rows : HasMerged (payload_texts g.T.PayloadText) l.fn.lefts.items l.merging.lefts.items l.fn.text.items l.text.items;
}

-- how many entries are left
abbrev pub decreases-loop-row : goal.decreases-loop-row
decreases-loop-row g l = sum_by length l.merging.lefts.items
