use Rattle.std.proofs.Common.{rules}
use Rattle.colour_rules.proofs.Idling.{idle-waiting}
use Rattle.colour_rules.proofs.node.ColourNode.pulse_with.Goals as goal

pub returns : goal.returns
returns c =
    record {
      pulsed = record {
        answer = search rules;
        idle = idle-waiting c.do_work.new.self c.idle_after.result c.idle_after.ensures;
        waits = c.idle_after.ensures;
        refused = tt;
      };
    }
