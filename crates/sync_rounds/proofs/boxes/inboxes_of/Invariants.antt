use Rattle.sync_rounds.specs.Lists.{Lists, empty_inbox}
use Rattle.sync_rounds.proofs.boxes.inboxes_of.Given as goal

abbrev pub invariant-loop-i : goal.invariant-loop-i
invariant-loop-i g l = Lists l.i (empty_inbox l.net) l.inboxes.items
