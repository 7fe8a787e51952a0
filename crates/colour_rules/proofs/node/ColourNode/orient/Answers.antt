use Rattle.std.proofs.Common.{◌≡◌, ◌≤◌, List, length, refl, ap, sym, ◌∙◌, subst, rules}
use Rattle.std.specs.Prelude.{count_by, nat_lt}
use Rattle.std.specs.Vec.{with_items}
use Rattle.std.proofs.lemmas.List.{with_items_is}
use Rattle.forests.specs.declared.numbering.Role.{Role}
use Rattle.colour_rules.specs.Node.{Node, HasForests}
use Rattle.colour_rules.specs.contracts.node.ColourNode.{the_view}
use Rattle.colour_rules.proofs.Orienting.{oriented-in}
use Rattle.colour_rules.proofs.Valid.{IsValid, valid-roles, valid-seen}
use Rattle.colour_rules.proofs.node.ColourNode.orient.Goals as goal

pub invariant_of-self : goal.invariant_of-self
invariant_of-self c =
    let inside = c.self.inside in
    let ids = c.args.identifiers.now in
    let roles = c.number_up.new.roles in
    let few = subst (λ (node : Node). count_by (nat_lt node.id) ids ≤ node.sizes.forests) (sym c.self.view_is) c.requires.few in
    let size : length roles ≡ inside.roles.len = search rules in
    let as_many : length roles ≡ length inside.roles.items = search rules in
    let is : (with_items inside.roles roles).items ≡ roles = with_items_is inside.roles roles size in
    let old : IsValid (the_view inside) = valid-seen inside (the_view inside) refl c.self.invariant in (
      valid-roles (the_view inside) (with_items inside.roles roles).items old
          (ap (λ (rs : List Role). length rs) is ∙ as_many)
          (subst (HasForests inside.forests) (sym (is ∙ c.number_up.ensures.numbered)) (oriented-in inside.id ids inside.forests few)),
      c.self.invariant.1,
    )
