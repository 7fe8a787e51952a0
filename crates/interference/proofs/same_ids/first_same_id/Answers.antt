use Rattle.std.proofs.Common.{◌≡◌, ℕ, ◌+◌, Some, None, false, ⊎_elim, slice_index, sym, ◌∙◌, subst, arith, rules}
use Rattle.std.specs.Ordering.{nat_cmp}
use Rattle.std.specs.BTreeMap.{get, is_at, Updates}
use Rattle.std.proofs.lemmas.Bool.{cases_eq}
use Rattle.std.proofs.lemmas.Bool.Decides.{nat_tests}
use Rattle.std.proofs.lemmas.Option.{none-some}
use Rattle.interference.proofs.SameIds.{IsFirstWith, none_from_increasing, first-keep, first-here, pair-new, pair-old}
use Rattle.interference.proofs.same_ids.first_same_id.Goals.{in-Some, in-None+in_ok-insert-in-None}
use Rattle.interference.proofs.same_ids.first_same_id.Goals as goal

pub returns-then-rise : goal.returns-then-rise
returns-then-rise c = none_from_increasing c.args.ids.now (c.rise.ensures.0 c.if-rise.true)

key-apart : (k q : ℕ) → (k ≡ q → ⊥) → is_at (nat_cmp k) q ≡ false
key-apart k q apart = grind (arith, nat_tests)

pub loop-i-preserved : goal.loop-i-preserved
loop-i-preserved c =
    let i = c.loop-i.i in
    let ids = c.args.ids.now in
    let id = slice_index ids i in
    let firsts = c.loop-i.firsts in
    let old = c.loop-i.invariant in
    elim c.match-first.branch [
      | in-Some w ↦
          let v = w.in-Some.v in
          let found : get nat_cmp firsts id ≡ Some v = search rules in
          let first = subst (λ o. IsFirstWith ids i id o) found (old.first id) in
          rw (w.found-is, w.firsts-is, w.earlier.ensures) (record {
            first = λ q. first-keep ids i q (get nat_cmp firsts q) (λ none same. none-some v (sym none ∙
                subst (λ x. get nat_cmp firsts x ≡ Some v) same found)) (old.first q);
            pair = pair-old ids i v c.loop-i.found first old.pair;
          })
      | in-None+in_ok-insert-in-None w ↦
          let found : get nat_cmp firsts id ≡ None = search rules in
          let new = w.insert.new.self in
          let none = subst (λ o. IsFirstWith ids i id o) found (old.first id) in
          let updates : Updates nat_cmp firsts new id (Some (i + 1)) = w.in_ok-insert-in-None.ensures.updates in
          rw (w.found-is, w.firsts-is) (record {
            first = λ q. ⊎_elim
                (λ same. subst (λ x. IsFirstWith ids (i + 1) x (get nat_cmp new x)) same (subst (λ o. IsFirstWith ids (i + 1) id o) (sym updates.1)
                (first-here ids i none)))
                (λ apart. subst (λ o. IsFirstWith ids (i + 1) q o) (sym (updates.2 q (key-apart id q apart)))
                (first-keep ids i q (get nat_cmp firsts q) (λ _ same. apart same) (old.first q)))
                (cases_eq id q);
            pair = pair-new ids i c.loop-i.found none old.pair;
          })
    ]
