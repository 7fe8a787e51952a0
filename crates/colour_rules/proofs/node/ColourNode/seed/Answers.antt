use Rattle.std.proofs.Common.{◌≡◌, ℕ, length, ap, sym, subst, ◌∙◌}
use Rattle.std.proofs.lemmas.List.{length-replicate}
use Rattle.node_api.specs.Boxes.{nothing}
use Rattle.colour_rules.specs.InForests.{before_in}
use Rattle.colour_rules.specs.Node.{AreBelow, Node, ports}
use Rattle.colour_rules.specs.declared.payload.Payload.{Payload}
use Rattle.colour_rules.specs.contracts.node.ColourNode.{the_view}
use Rattle.colour_rules.proofs.KeptPorts.{length-labelled}
use Rattle.colour_rules.proofs.Valid.{valid-colours}
use Rattle.colour_rules.proofs.node.ColourNode.seed.Goals as goal

pub tell_colours-requires : goal.tell_colours-requires
tell_colours-requires c =
    let as_many : ports c.label.new.self ≡ ports c.args.self.now = ap (λ (node : Node). ports node) c.label.ensures.node ∙
    length-labelled c.args.self.now.roles c.args.inbox.now.slots c.requires.ports in
    c.requires.out ∙ ap (λ (n : ℕ). nothing {M = Payload} n) (sym (ap (λ (node : Node). ports node) c.self.view_is ∙ as_many))

pub label-requires-clause-ports : goal.label-requires-clause-ports
label-requires-clause-ports c = c.requires.ports

pub label-requires-clause-labels : goal.label-requires-clause-labels
label-requires-clause-labels c = c.requires.labels

pub seed-requires : goal.seed-requires
seed-requires c = tt

pub invariant_of-self : goal.invariant_of-self
invariant_of-self c =
    let inside = c.self.inside in
    let i = c.self.invariant in
    let v = i.0 in
    let before = c.seed.ensures.before in (
      valid-colours (the_view inside) _ _ v
          (ap length (c.seed.ensures.colours inside.id) ∙ length-replicate (length (before_in inside.colours)) inside.id ∙ v.each_before)
          (ap length before ∙ v.each_before) (subst (AreBelow 6) (sym before) v.six),
      i.1,
    )
