use Rattle.std.proofs.Common.{◌+◌, [], ◌∷◌, length, map, sym, ap, ◌∙◌, arith, rules, map-id}
use Rattle.std.proofs.lemmas.List.{length-append}
use Rattle.std.proofs.lemmas.Iterator.Consumers.{YieldsList-end}
use Rattle.std.proofs.lemmas.Iterator.Adapters.{YieldsList-from_vec}
use Rattle.crossbeam_deque.specs.Handles.{view}
use Rattle.deque_rule.specs.Ledgers.{pushed_by, taken_by}
use Rattle.pool.proofs.Pushed.{in_rows_more}
use Rattle.pool.proofs.gathering.absorb_rows.Goals as goal

pub loop-row-preserved : goal.loop-row-preserved
loop-row-preserved g c =
    let inv = c.loop-row.invariant in
    let said = c.absorb_row.ensures in
    let yielded = c.loop-row.yielded in
    record {
      deques = said.deques ∙ inv.deques;
      some = said.some;
      shares = λ p all k d lt.
          let a = said.shares (p + length yielded) (inv.shares p all) k d lt in
          omega (arith, length-append yielded (c.in-Some.row ∷ []));
      pushed = λ h.
          let a = said.pushed h in
          let i = inv.pushed h in
          let m = in_rows_more (pushed_by h) (λ row. map (λ g'. view g'.pass) row.items) yielded c.in-Some.row in
          omega arith;
      taken = λ h.
          let a = said.taken h in
          let i = inv.taken h in
          let m = in_rows_more (taken_by h) (λ row. map (λ g'. view g'.pass) row.items) yielded c.in-Some.row in
          omega arith;
    }

pub returns-clause-shares : goal.returns-clause-shares
returns-clause-shares g c p all k d lt =
    let end = YieldsList-end (YieldsList-from_vec {s = c.into_iter-row-iterator.result} c.args.rows.items (search rules) (search rules))
    c.loop-row.yielded c.loop-row.row-iterator c.loop-row.yielded_by c.next.result c.next.new.self c.in-None.is c.next.ensures.steps in
    let n = ap length (sym (map-id c.loop-row.yielded) ∙ end.0) in
    let a = c.loop-row.invariant.shares p all k d lt in
    omega (arith, c.args.rows.ok.0)
