use Rattle.std.proofs.Common.{◌≤◌, length, rules}
use Rattle.node_api.proofs.Outboxes.{told-all}
use Rattle.matching.proofs.node.tell_free.Goals as goal

pub returns : goal.returns
returns c =
    let past : length c.args.node.now.roles ≤ c.loop-port.port = search rules in
    told-all c.loop-port.invariant past
