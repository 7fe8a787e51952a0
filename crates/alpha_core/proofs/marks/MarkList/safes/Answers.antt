use Rattle.std.proofs.Common.{◌+◌, ap, ◌∙◌, arith}
use Rattle.alpha_core.specs.Rows.{marks_at, safes_of}
use Rattle.alpha_core.proofs.Kept.{inside, safes-seen}
use Rattle.alpha_core.proofs.marks.MarkList.safes.Goals as goal

pub index-requires : goal.index-requires
index-requires c =
    let a = c.self.inside in
    omega (arith, inside a.pulse a.kept.items c.args.self.now c.self.view_is c.args.port c.requires.port, a.kept.ok.0)

pub returns : goal.returns
returns c =
    let a = c.self.inside in
    record {
      safes = safes-seen a.pulse a.kept.items c.args.self.now c.self.view_is c.args.port c.index.result.now c.index.ensures c.requires.port
          c.self.invariant.in_step ∙ ap (λ v. v.pulse + safes_of (marks_at c.args.self.now.ports c.args.port)) c.self.view_is;
    }
