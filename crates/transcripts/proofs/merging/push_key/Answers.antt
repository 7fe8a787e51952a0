use Rattle.std.specs.BinaryHeap.{heap_items}
use Rattle.transcripts.proofs.Keys.{key_added}
use Rattle.transcripts.proofs.merging.push_key.Goals as goal

pub returns-in_ok-push-clause-added : goal.returns-in_ok-push-clause-added
returns-in_ok-push-clause-added g c =
    key_added c.args.left.now c.in-Some.stamp c.args.index (heap_items c.args.keys.now) (heap_items c.push.new.self) c.in-Some.ensures
    c.in_ok-push.ensures.permutation
