use Rattle.std.proofs.Common.{◌≡◌}
use Rattle.link_queue.specs.Ends.{StaysPutEnd, put_stamped}
use Rattle.link_queue.proofs.link.Link.put.Given as goal

abbrev pub invariant-loop : goal.invariant-loop
invariant-loop g l = record {
  end : StaysPutEnd l.fn.self l.fn.end l.end;
  same : put_stamped l.end ≡ put_stamped l.fn.end;
}
