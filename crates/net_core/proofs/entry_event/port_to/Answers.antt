use Rattle.net_core.proofs.Ports.{searched-port}
use Rattle.net_core.proofs.entry_event.port_to.Goals as goal

pub returns-in-Ok-clause-port : goal.returns-in-Ok-clause-port
returns-in-Ok-clause-port c =
    let found = searched-port c.args.net.now c.neighbours.ensures.network c.args.v c.args.w c.requires.vertex c.neighbours.result.now c.neighbours.ensures.value
    c.binary_search.result c.binary_search.ensures.position in rw c.in-Ok.is at found

pub returns-in-Err-clause-none : goal.returns-in-Err-clause-none
returns-in-Err-clause-none c =
    let found = searched-port c.args.net.now c.neighbours.ensures.network c.args.v c.args.w c.requires.vertex c.neighbours.result.now c.neighbours.ensures.value
    c.binary_search.result c.binary_search.ensures.position in rw c.in-Err.is at found
