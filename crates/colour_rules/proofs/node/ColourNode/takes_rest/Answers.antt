use Rattle.std.specs.Prelude.{IsTrue, false}
use Rattle.colour_rules.proofs.Taking.{passed-end}
use Rattle.colour_rules.proofs.node.ColourNode.takes_rest.Goals as goal

pub returns : goal.returns
returns c =
    record {
      accepted = λ all.
          let l = c.loop-reader in
          passed-end c.args.self.now c.args.forest c.args.reader.slots c.requires.ports l.reader l.invariant.same l.invariant.within
          (λ h. let e : IsTrue false = c.loop-reader-test.ensures.more.1 h in absurd (cc)) l.invariant.passed;
    }
