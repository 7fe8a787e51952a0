use Rattle.std.proofs.Common.{◌∷◌, ◌++◌, [], length, arith, sym, ap, ◌∙◌}
use Rattle.std.specs.Option.{option_to_list}
use Rattle.std.proofs.lemmas.List.{append-nil, length-append}
use Rattle.entries.specs.Bare.{payloads_of_entries}
use Rattle.entries.proofs.More.{items-more, payloads-more}
use Rattle.entries.proofs.list.Entries.push_reserved.Goals as goal

-- there is a payload more
pub invariant_of-self : goal.invariant_of-self
invariant_of-self g c =
    let e = c.self.inside in
    let bares = ap payloads_of_entries c.push_reserved-2.ensures.items in
    let payloads = ap (λ l. length l) c.push_reserved-in-Some.ensures.items in
    let one = ap (λ p. length (option_to_list p)) c.in-Some.is in
    let long = ap (λ l. length l) c.push_reserved-2.ensures.items in
    let stamps = ap (λ l. length l) c.push_reserved.ensures.items in (
      omega (
        arith,
        bares,
        payloads,
        payloads-more e.bares.items c.split-payload.result.0,
        length-append e.payloads.items (c.in-Some.payload ∷ []),
        c.self.invariant.0,
        c.split-payload.ensures.count,
        one,
      ),
      omega (
        arith,
        long,
        stamps,
        length-append e.bares.items (c.split-payload.result.0 ∷ []),
        length-append e.stamps.items (c.args.stamp ∷ []),
        c.self.invariant.1,
      ),
    )

-- there is none
pub invariant_of-self-in_default : goal.invariant_of-self-in_default
invariant_of-self-in_default g c =
    let e = c.self.inside in
    let bares = ap payloads_of_entries c.push_reserved-2.ensures.items in
    let none = ap (λ p. length (option_to_list p)) c.in_default.is in
    let long = ap (λ l. length l) c.push_reserved-2.ensures.items in
    let stamps = ap (λ l. length l) c.push_reserved.ensures.items in (
      omega (arith, bares, payloads-more e.bares.items c.split-payload.result.0, c.self.invariant.0, c.split-payload.ensures.count, none),
      omega (
        arith,
        long,
        stamps,
        length-append e.bares.items (c.split-payload.result.0 ∷ []),
        length-append e.stamps.items (c.args.stamp ∷ []),
        c.self.invariant.1,
      ),
    )

pub returns-in-Some-clause-items : goal.returns-in-Some-clause-items
returns-in-Some-clause-items g c =
    let e = c.self.inside in
    items-more e.stamps.items e.bares.items e.payloads.items _ c.self.invariant.0 c.self.invariant.1 (ap (λ v. v.items) c.self.view_is) _ _ _
    (option_to_list c.split-payload.result.1) c.args.stamp c.split-payload.result.0 c.args.entry c.push_reserved.ensures.items
    c.push_reserved-2.ensures.items (c.push_reserved-in-Some.ensures.items ∙ ap (λ l. e.payloads.items ++ l) (sym (ap option_to_list c.in-Some.is)))
    c.split-payload.ensures.entry

pub returns-in_default-clause-items : goal.returns-in_default-clause-items
returns-in_default-clause-items g c =
    let e = c.self.inside in
    items-more e.stamps.items e.bares.items e.payloads.items _ c.self.invariant.0 c.self.invariant.1 (ap (λ v. v.items) c.self.view_is) _ _ _
    (option_to_list c.split-payload.result.1) c.args.stamp c.split-payload.result.0 c.args.entry c.push_reserved.ensures.items
    c.push_reserved-2.ensures.items (sym (append-nil e.payloads.items) ∙ ap (λ l. e.payloads.items ++ l) (sym (ap option_to_list c.in_default.is)))
    c.split-payload.ensures.entry
