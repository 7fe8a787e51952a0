use Rattle.std.proofs.Common.{◌≡◌, arith, subst, sym}
use Rattle.node_api.specs.Program.{RestsUntil}
use Rattle.followed.specs.Followed.{Both, followed}
use Rattle.followed.specs.RunLaws.{rests-early}
use Rattle.followed.proofs.followed.FollowedNodeProgram.rests_until.Goals as goal

pub returns : goal.returns
returns g c =
    let first = g.R.Sequel.before in
    let sequel = g.R.Sequel.sequel in
    let same : first ≡ g.P.NodeProgram.program = g.met.R.Sequel.same in
    let a = c.self.inside in
    let until : c.until.result ≡ sequel.until a.beside = c.until.ensures.until in
    let rests : RestsUntil first a.first c.args.pulse c.rests_until.result =
    subst (λ program. RestsUntil program a.first c.args.pulse c.rests_until.result) (sym same) c.rests_until.ensures.rests in
    record {
      rests = subst (λ (s : Both _ _). RestsUntil (followed first sequel) s c.args.pulse c.min.result) c.self.view_is
          (λ q after before. rests-early first sequel (record { first = a.first; beside = a.beside }) c.args.pulse c.rests_until.result rests q
          after (omega (arith, c.min.ensures, before)) (omega (arith, c.min.ensures, before, until)));
    }
