use Rattle.std.proofs.Common.{rules, ◌≡◌, ℕ, ◌<◌, false, refl, ap, sym, ◌∙◌, arith, slice_index_or}
use Rattle.forests.specs.declared.numbering.Role.TheVariants.{Unknown}
use Rattle.colour_rules.specs.Node.{Node, ports}
use Rattle.colour_rules.specs.Table.{is_due}
use Rattle.colour_rules.proofs.Places.{role-is, holds-more}
use Rattle.colour_rules.proofs.node.ColourNode.none_due.Goals as goal

pub loop-port-init : goal.loop-port-init
loop-port-init c = λ port low high. absurd (omega arith)

pub returns-then-is_due : goal.returns-then-is_due
returns-then-is_due c =
    let here : c.loop-port.port < ports c.args.self.now = omega (arith, c.requires, c.loop-port-test.true) in
    record {
      port = c.loop-port.port;
      is = refl;
      low = c.loop-port.auto.port;
      high = c.loop-port-test.true;
      due = ap (is_due c.args.phase) (sym (role-is c.self.inside.roles.items c.args.self.now.roles c.loop-port.port c.index.result.now
          (ap (λ (node : Node). node.roles) c.self.view_is) c.index.ensures here)) ∙ (sym c.is_due.ensures ∙ c.if-is_due.true);
      first = c.loop-port.invariant;
    }

pub loop-port-preserved : goal.loop-port-preserved
loop-port-preserved c =
    let here : c.loop-port.port < ports c.args.self.now = omega (arith, c.requires, c.loop-port-test.true) in
    let none : is_due c.args.phase (slice_index_or c.args.self.now.roles c.loop-port.port Unknown) ≡ false =
    ap (is_due c.args.phase) (sym (role-is c.self.inside.roles.items c.args.self.now.roles c.loop-port.port c.index.result.now
    (ap (λ (node : Node). node.roles) c.self.view_is) c.index.ensures here)) ∙ (sym c.is_due.ensures ∙ c.if-is_due.false) in
    holds-more (λ (port : ℕ). is_due c.args.phase (slice_index_or c.args.self.now.roles port Unknown) ≡ false) c.args.from c.loop-port.port
    c.loop-port.invariant none

pub returns-after-loop-port : goal.returns-after-loop-port
returns-after-loop-port c = search rules
