use Rattle.std.proofs.Common.{◌≡◌, ap, sym, ◌∙◌}
use Rattle.node_api.specs.Program.{own_of}
use Rattle.followed.proofs.followed.FollowedNodeProgram.make.Goals as goal

-- the node has the ports of its vertex, so its boxes have
pub invariant_of-result : goal.invariant_of-result
invariant_of-result g c =
    let first = g.R.Sequel.before in
    let same : first ≡ g.P.NodeProgram.program = g.met.R.Sequel.same in
    let own = own_of c.args.net.now c.args.v in
    record {
      ports_are = ap first.ports (c.in_ok-first.ensures.made ∙ ap (λ program. program.made own) (sym same))
          ∙ (g.R.Sequel.before_laws.keeps_ports.made_ports own ∙ sym c.degree-degree.ensures.value);
      nothing_came = c.in_ok-inbox.ensures.empty;
      nothing_sent = c.in_ok-out.ensures.empty;
    }
