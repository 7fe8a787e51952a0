use Rattle.std.proofs.Common.{◌≡◌, ℕ, nat_lt}
use Rattle.std.specs.Prelude.{not}
use Rattle.node_api.specs.Program.{span}
use Rattle.colour_rules.specs.Node.{Node}
use Rattle.colour_rules.specs.Choice.{chooses, free_for, with_heard, is_taken}
use Rattle.colour_rules.proofs.Choosing.{least_free_colour-high, turn-rule}
use Rattle.colour_rules.proofs.node.ColourNode.has_no_choice.Goals as goal

pub returns : goal.returns
returns c =
    record {
      refused =
          let node : Node = with_heard c.args.self.now c.args.step c.args.inbox.now.slots in
          let limit : ℕ = span c.args.self.now.sizes in
          let high : nat_lt limit (free_for node) ≡ not c.has_free_at.result =
          least_free_colour-high limit (is_taken node) c.has_free_at.result c.has_free_at.ensures.free in
          turn-rule (chooses node c.args.forest c.args.step) (nat_lt limit (free_for node)) (not c.has_free_at.result) c.if-not-chooses.ensures high;
    }
