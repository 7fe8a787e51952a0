-- The plan: the keys then have the members of the old ones and the bar, so the bars of its vertex in the new keys are as many as
-- there are different ones among the old and the bar; they are more by one just if the bar is new.
use Rattle.std.proofs.Common.{◌≡◌, ◌+◌, ◌∙◌, ◌≤◌, ◌++◌, [], ◌∷◌, Some, true, false, sym, subst, rules, arith}
use Rattle.std.proofs.lemmas.Bool.{le-ltb, lt-ltb}
use Rattle.std.specs.BTreeMap.{Updates}
use Rattle.std.specs.BTreeSet.{insert_key}
use Rattle.std.specs.Ordering.{nat_cmp}
use Rattle.std.specs.Set.{is_member}
use Rattle.dimacs_col.specs.Bag.{SameMembers}
use Rattle.graph_limits.specs.Pairs.{bars_at, pair_cmp, same_pair}
use Rattle.graph_limits.specs.declared.limits.TheConstants.{MAX_BARS}
use Rattle.dimacs_col.proofs.Members.{member-push}
use Rattle.dimacs_col.proofs.BarSets.{many-is, bars_at-more, counted-same, counted-more, was-new}
use Rattle.dimacs_col.proofs.bars.BarSet.insert.Goals as goal

pub returns-then-not-branch-clause-within : goal.returns-then-not-branch-clause-within
returns-then-not-branch-clause-within c = λ counted.
    let old = c.args.self.now.bars.keys in
    let new = c.insert.new.self.keys in
    let members : SameMembers new (old ++ c.args.bar ∷ []) = λ pair. c.in_ok-insert.ensures.updates.0 pair ∙ sym (member-push old c.args.bar pair) in
    let added : c.in_ok-insert.field-0 ≡ false = search rules in
    let same : new ≡ old = (rw added at c.in_ok-insert.ensures.unchanged) in
    let few : bars_at new c.args.bar.0 ≤ MAX_BARS = rw same (counted.few c.args.bar.0) in
    many-is old new c.args.bar false c.insert.ensures.ordered members (le-ltb MAX_BARS (bars_at new c.args.bar.0) few)

pub returns-then-not-branch-clause-counted : goal.returns-then-not-branch-clause-counted
returns-then-not-branch-clause-counted c = λ counted within.
    let added : c.in_ok-insert.field-0 ≡ false = search rules in
    counted-same c.args.self.now c.insert.new.self counted (rw added at c.in_ok-insert.ensures.unchanged)

pub returns-then-count-ge-MAX_BARS-clause-members : goal.returns-then-count-ge-MAX_BARS-clause-members
returns-then-count-ge-MAX_BARS-clause-members c =
    λ pair. c.in_ok-insert.ensures.updates.0 pair ∙ sym (member-push c.args.self.now.bars.keys c.args.bar pair)

pub returns-then-count-ge-MAX_BARS-clause-within : goal.returns-then-count-ge-MAX_BARS-clause-within
returns-then-count-ge-MAX_BARS-clause-within c = λ counted.
    let old = c.args.self.now.bars.keys in
    let new = c.insert.new.self.keys in
    let members : SameMembers new (old ++ c.args.bar ∷ []) = λ pair. c.in_ok-insert.ensures.updates.0 pair ∙ sym (member-push old c.args.bar pair) in
    let added : c.in_ok-insert.field-0 ≡ true = search rules in
    let fresh : is_member same_pair old c.args.bar ≡ false = was-new _ _ c.in_ok-insert.ensures.added added in
    let keys : new ≡ insert_key pair_cmp old c.args.bar = c.in_ok-insert.ensures.keys in
    let more : bars_at new c.args.bar.0 ≡ bars_at old c.args.bar.0 + 1 = rw keys (bars_at-more old c.args.bar fresh) in
    many-is old new c.args.bar true c.insert.ensures.ordered members
    (lt-ltb MAX_BARS (bars_at new c.args.bar.0) (omega (arith, more, counted.each c.args.bar.0, c.count_of-count.ensures)))

pub returns-clause-members : goal.returns-clause-members
returns-clause-members c = λ pair. c.in_ok-insert.ensures.updates.0 pair ∙ sym (member-push c.args.self.now.bars.keys c.args.bar pair)

pub returns-clause-within : goal.returns-clause-within
returns-clause-within c = λ counted.
    let old = c.args.self.now.bars.keys in
    let new = c.insert.new.self.keys in
    let members : SameMembers new (old ++ c.args.bar ∷ []) = λ pair. c.in_ok-insert.ensures.updates.0 pair ∙ sym (member-push old c.args.bar pair) in
    let added : c.in_ok-insert.field-0 ≡ true = search rules in
    let fresh : is_member same_pair old c.args.bar ≡ false = was-new _ _ c.in_ok-insert.ensures.added added in
    let keys : new ≡ insert_key pair_cmp old c.args.bar = c.in_ok-insert.ensures.keys in
    let more : bars_at new c.args.bar.0 ≡ bars_at old c.args.bar.0 + 1 = rw keys (bars_at-more old c.args.bar fresh) in
    many-is old new c.args.bar false c.insert.ensures.ordered members
    (le-ltb MAX_BARS (bars_at new c.args.bar.0) (omega (arith, more, counted.each c.args.bar.0, c.count_of-count.ensures)))

pub returns-clause-counted : goal.returns-clause-counted
returns-clause-counted c = λ counted within.
    let old = c.args.self.now.bars.keys in
    let added : c.in_ok-insert.field-0 ≡ true = search rules in
    let fresh : is_member same_pair old c.args.bar ≡ false = was-new _ _ c.in_ok-insert.ensures.added added in
    let updates = subst (λ n. Updates nat_cmp c.args.self.now.counts c.insert-2.new.self c.args.bar.0 (Some (n + 1))) c.count_of-count.ensures
    c.in_ok-insert-2.ensures.updates in
    counted-more c.args.self.now c.args.bar c.insert.new.self c.insert-2.new.self counted fresh c.in_ok-insert.ensures.keys updates
    (omega (arith, c.count_of-count.ensures))
