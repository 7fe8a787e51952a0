use Rattle.std.proofs.Common.{◌≡◌, true, List, ap, sym, ◌∙◌}
use Rattle.std.specs.List.{list_all}
use Rattle.forests.specs.declared.numbering.Role.{Role}
use Rattle.colour_rules.specs.Node.{Node}
use Rattle.colour_rules.specs.Table.{is_merged}
use Rattle.colour_rules.proofs.Telling.{told-by-broadcast}
use Rattle.colour_rules.proofs.node.ColourNode.tell_chosen.Goals as goal

pub returns-then-are_merged : goal.returns-then-are_merged
returns-then-are_merged c =
    let node : Node = c.args.self.now in
    let roles : c.deref.result.now ≡ node.roles = c.deref.ensures.value ∙ ap (λ (n : Node). n.roles) c.self.view_is in
    let all : list_all (is_merged c.args.forest) node.roles ≡ true =
    ap (λ (rs : List Role). list_all (is_merged c.args.forest) rs) (sym roles) ∙ (sym c.are_merged.ensures ∙ c.if-are_merged.true) in
    told-by-broadcast node c.args.forest c.new.result c.args.out.now c.broadcast.new.self
    (c.new.ensures.number ∙ ap (λ (n : Node). n.merged) c.self.view_is)
    c.requires c.broadcast.ensures.sent all
