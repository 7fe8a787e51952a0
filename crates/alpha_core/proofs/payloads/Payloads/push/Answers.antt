use Rattle.std.proofs.Common.{not, [], ◌∷◌, ◌++◌, length, ap, ◌∙◌, arith}
use Rattle.alpha_core.proofs.PayloadPlaces.{first-put, second-put, some-isnt-none, taken-isnt-none}
use Rattle.alpha_core.proofs.payloads.Payloads.push.Goals as goal

pub invariant_of-self : goal.invariant_of-self
invariant_of-self g c e = some-isnt-none c.args.payload e

pub invariant_of-self-else-is_none : goal.invariant_of-self-else-is_none
invariant_of-self-else-is_none g c e =
    taken-isnt-none c.self.inside.first (c.is_none.ensures ∙ ap (λ b. not b) c.if-is_none.false) e

pub returns-then-is_none : goal.returns-then-is_none
returns-then-is_none g c =
    let a = c.self.inside in
    record {
      items = first-put a.first a.second c.args.payload (c.is_none.ensures ∙ ap (λ b. not b) c.if-is_none.true) c.self.invariant
          ∙ ap (λ l. l ++ c.args.payload ∷ []) c.self.view_is;
    }

pub returns-else-is_none : goal.returns-else-is_none
returns-else-is_none g c =
    let a = c.self.inside in
    record {
      items = second-put a.first a.second c.args.payload (c.is_none.ensures ∙ ap (λ b. not b) c.if-is_none.false)
          (omega (arith, c.requires.room, ap length c.self.view_is)) ∙ ap (λ l. l ++ c.args.payload ∷ []) c.self.view_is;
    }
