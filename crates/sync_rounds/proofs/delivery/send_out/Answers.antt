-- A quiet outbox has nothing to be delivered.
use Rattle.sync_rounds.proofs.Deliveries.{delivered_quiet}
use Rattle.sync_rounds.proofs.delivery.send_out.Goals as goal

pub returns-clause-after : goal.returns-clause-after
returns-clause-after g c = λ outs now.
    delivered_quiet c.args.net.now c.requires.network outs c.args.w c.args.out.now c.args.inboxes.now now.row
    (c.is_quiet.ensures.nothing.0 c.if-not-is_quiet.false) now.before
