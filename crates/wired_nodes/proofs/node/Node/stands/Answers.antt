use Rattle.alpha_laws.proofs.Runs.{runs}
use Rattle.alpha_laws.proofs.Stands.{stands}
use Rattle.wired_nodes.proofs.node.Node.stands.Goals as goal

-- each is a fact of the node's type
pub returns : goal.returns
returns g c =
    let kept = c.args.self.now.kept in
    record {
      stands = stands (runs g.P.NodeProgram.program g.P.NodeProgram.laws g.J.Wiring.net kept.network) kept.is_vertex kept.keeps kept.legal;
      did = kept.did;
    }
