use Rattle.std.proofs.Common.{subst, ap, ◌∙◌, arith}
use Rattle.std.specs.Prelude.{◌||◌}
use Rattle.std.proofs.lemmas.Bool.Decides.{nat_tests}
use Rattle.std.specs.Ordering.{nat_cmp}
use Rattle.std.specs.FinSet.{contains, contains-empty}
use Rattle.node_api.specs.Program.{span}
use Rattle.forest_merge.specs.Free.{HasFree}
use Rattle.colour_rules.specs.Node.{Node}
use Rattle.colour_rules.proofs.node.ColourNode.has_free_at.Goals as goal

-- at the first step nothing is chosen, and the bars leave a colour free
pub returns-then-step-eq0 : goal.returns-then-step-eq0
returns-then-step-eq0 c =
    record {
      free =
          let some : HasFree (span c.args.self.now.sizes) (contains c.args.self.now.barred) =
          subst (λ (n : Node). HasFree (span n.sizes) (contains n.barred)) c.self.view_is c.self.invariant.0.free in (
            λ h. (some.0, some.1, rw (c.if-step-eq0.true) (ap (λ b. b || contains c.args.self.now.barred some.0) (contains-empty nat_cmp some.0) ∙ some.2)),
            λ h. grind (arith, nat_tests),
          );
    }
