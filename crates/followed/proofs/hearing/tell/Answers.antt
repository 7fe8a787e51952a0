use Rattle.std.proofs.Common.{◌≡◌, ap, sym, ◌∙◌, refl}
use Rattle.std.specs.Prelude.{map, length}
use Rattle.node_api.specs.Boxes.{nothing}
use Rattle.followed.specs.Said.{said}
use Rattle.followed.specs.RunLaws.{said-nothing}
use Rattle.followed.proofs.hearing.tell.Goals as goal

-- nothing is told of an outbox that is quiet
pub returns-then-is_quiet-clause-told : goal.returns-then-is_quiet-clause-told
returns-then-is_quiet-clause-told g c =
    let quiet : c.args.own.now ≡ nothing (length c.args.own.now) = c.if-is_quiet.ensures.nothing.0 refl in
    c.requires.out
    ∙ (ap (λ n. nothing n) (sym c.requires.degree)
    ∙ (sym (said-nothing (length c.args.own.now))
    ∙ ap (map said) (sym quiet)))
