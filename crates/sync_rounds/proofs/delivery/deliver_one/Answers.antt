-- The neighbour has an inbox with a place for the port that leads back, which is empty; so this message moves one entry, whatever the
-- outboxes are that send it and whichever ports were served before.
use Rattle.std.proofs.Common.{ap, arith}
use Rattle.interference.specs.Net.{degree_of}
use Rattle.sync_rounds.proofs.Messages.{free_at, delivered_at}
use Rattle.sync_rounds.proofs.delivery.deliver_one.Goals as goal

pub put-requires-clause-port : goal.put-requires-clause-port
put-requires-clause-port g c =
    let (outs, of_w, now) = c.requires.next in
    omega (
      arith,
      c.back_port.ensures.port,
      now.before.ports c.neighbour-v.result c.index-inboxes-v.result c.neighbour-v.ensures.vertex,
      ap (degree_of c.args.net.now) c.neighbour-v.ensures.value,
    )

pub put-requires-clause-empty : goal.put-requires-clause-empty
put-requires-clause-empty g c =
    let (outs, of_w, now) = c.requires.next in
    free_at c.args.net.now c.neighbour-v.ensures.network outs c.args.w of_w c.args.port c.requires.vertex c.requires.port now.fresh c.args.inboxes.now
    now.before c.neighbour-v.result c.back_port.result c.index-inboxes-v.result c.neighbour-v.ensures.value c.back_port.ensures.value

pub returns : goal.returns
returns g c = record {
  after = λ outs of_w now.
      delivered_at c.args.net.now c.neighbour-v.ensures.network outs c.args.w of_w c.args.port c.requires.vertex c.requires.port now.fresh c.args.inboxes.now
      now.before c.args.payload now.sent c.neighbour-v.result c.back_port.result c.index-inboxes-v.result c.put.new.self
      c.neighbour-v.ensures.value c.back_port.ensures.value c.index-inboxes-v.is c.put.ensures.slots c.put.ensures.cursor;
}
