-- The plan: a part of the turn that ended early says why, and the turn ends so too.
use Rattle.std.proofs.Common.{◌<◌, ap, arith, refl, subst, sym, true≢false, ◌∙◌}
use Rattle.std.specs.Prelude.{IsSome, IsTrue}
use Rattle.std.proofs.lemmas.Result.{IfOk-from_err}
use Rattle.alpha_core.specs.View.{can_pulse, can_take}
use Rattle.wired_nodes.specs.declared.refused.TurnRefused.TheVariants.{Memory, StampFull}
use Rattle.wired_nodes.proofs.Counting.{counts_both}
use Rattle.wired_nodes.proofs.Refusals.{same_refusal}
use Rattle.wired_nodes.proofs.Unmoved.{blocked-after, still_unmoved}
use Rattle.wired_nodes.proofs.node.Node.parts.Goals as goal

pub returns-in_err-took : goal.returns-in_err-took
returns-in_err-took g c =
    let took = c.in_err-took.ensures.stepped in
    record {
      turned = record {
        vertex = took.vertex;
        refusal = took.refusal;
        counts = took.counts;
        aside = IfOk-from_err c.from_residual.result _ c.from_residual.ensures.0;
        moved = IfOk-from_err c.from_residual.result _ c.from_residual.ensures.0;
        unmoved = IfOk-from_err c.from_residual.result _ c.from_residual.ensures.0;
        blocked = IfOk-from_err c.from_residual.result _ c.from_residual.ensures.0;
        puts_blocked = IfOk-from_err c.from_residual.result _ c.from_residual.ensures.0;
        room = IfOk-from_err c.from_residual.result _ c.from_residual.ensures.0;
        refused = same_refusal _ c.from_residual.result _ Memory c.from_residual.ensures.1 took.refused;
        full = same_refusal _ c.from_residual.result _ StampFull c.from_residual.ensures.1 took.full;
      };
    }

pub returns-in_err-pulsed : goal.returns-in_err-pulsed
returns-in_err-pulsed g c =
    let took = c.in_ok-took.ensures.stepped in
    let pulsed = c.in_err-pulsed.ensures.stepped in
    record {
      turned = record {
        vertex = pulsed.vertex ∙ took.vertex;
        refusal = pulsed.refusal ∙ took.refusal;
        counts = counts_both c.args.self.now c.take_all.new.self c.pulse.new.self took.counts pulsed.counts;
        aside = IfOk-from_err c.from_residual-in_err-pulsed.result _ c.from_residual-in_err-pulsed.ensures.0;
        moved = IfOk-from_err c.from_residual-in_err-pulsed.result _ c.from_residual-in_err-pulsed.ensures.0;
        unmoved = IfOk-from_err c.from_residual-in_err-pulsed.result _ c.from_residual-in_err-pulsed.ensures.0;
        blocked = IfOk-from_err c.from_residual-in_err-pulsed.result _ c.from_residual-in_err-pulsed.ensures.0;
        puts_blocked = IfOk-from_err c.from_residual-in_err-pulsed.result _ c.from_residual-in_err-pulsed.ensures.0;
        room = IfOk-from_err c.from_residual-in_err-pulsed.result _ c.from_residual-in_err-pulsed.ensures.0;
        refused = same_refusal _ c.from_residual-in_err-pulsed.result _ Memory c.from_residual-in_err-pulsed.ensures.1 pulsed.refused;
        full = same_refusal _ c.from_residual-in_err-pulsed.result _ StampFull c.from_residual-in_err-pulsed.ensures.1 pulsed.full;
      };
    }

pub returns-in_err-put : goal.returns-in_err-put
returns-in_err-put g c =
    let took = c.in_ok-took.ensures.stepped in
    let pulsed = c.in_ok-pulsed.ensures.stepped in
    let put = c.in_err-put.ensures.stepped in
    record {
      turned = record {
        vertex = put.vertex ∙ pulsed.vertex ∙ took.vertex;
        refusal = put.refusal ∙ pulsed.refusal ∙ took.refusal;
        counts = counts_both c.args.self.now c.pulse.new.self c.put_all.new.self
            (counts_both c.args.self.now c.take_all.new.self c.pulse.new.self took.counts pulsed.counts) put.counts;
        aside = IfOk-from_err c.from_residual-in_err-put.result _ c.from_residual-in_err-put.ensures.0;
        moved = IfOk-from_err c.from_residual-in_err-put.result _ c.from_residual-in_err-put.ensures.0;
        unmoved = IfOk-from_err c.from_residual-in_err-put.result _ c.from_residual-in_err-put.ensures.0;
        blocked = IfOk-from_err c.from_residual-in_err-put.result _ c.from_residual-in_err-put.ensures.0;
        puts_blocked = IfOk-from_err c.from_residual-in_err-put.result _ c.from_residual-in_err-put.ensures.0;
        room = IfOk-from_err c.from_residual-in_err-put.result _ c.from_residual-in_err-put.ensures.0;
        refused = same_refusal _ c.from_residual-in_err-put.result _ Memory c.from_residual-in_err-put.ensures.1 put.refused;
        full = same_refusal _ c.from_residual-in_err-put.result _ StampFull c.from_residual-in_err-put.ensures.1 put.full;
      };
    }

-- a node that has set a wire aside: the takes did so, or did nothing
pub returns-then-is_some : goal.returns-then-is_some
returns-then-is_some g c =
    let took = c.in_ok-took.ensures in
    let some = sym c.is_some.ensures ∙ c.if-is_some.true in
    record {
      turned = record {
        vertex = took.stepped.vertex;
        refusal = took.stepped.refusal;
        counts = took.stepped.counts;
        aside = λ some. refl;
        moved = λ did. absurd (true≢false (sym did));
        unmoved = λ did same. took.stepped.unmoved (took.stopped (subst (λ o. IsSome o) same some));
        blocked = λ did none. absurd (true≢false (sym (subst (λ o. IsSome o) none some)));
        puts_blocked = λ did none. absurd (true≢false (sym (subst (λ o. IsSome o) none some)));
        room = λ did none. absurd (true≢false (sym (subst (λ o. IsSome o) none some)));
        refused = tt;
        full = tt;
      };
    }

-- if no part of the turn did anything, the node is as it was
pub returns-else-pulsed : goal.returns-else-pulsed
returns-else-pulsed g c =
    let took = c.in_ok-took.ensures.stepped in
    let pulsed = c.in_ok-pulsed.ensures.stepped in
    let put = c.in_ok-put.ensures.stepped in
    let none = c.if-pulsed.false in
    record {
      turned = record {
        vertex = put.vertex ∙ pulsed.vertex ∙ took.vertex;
        refusal = put.refusal ∙ pulsed.refusal ∙ took.refusal;
        counts = counts_both c.args.self.now c.pulse.new.self c.put_all.new.self
            (counts_both c.args.self.now c.take_all.new.self c.pulse.new.self took.counts pulsed.counts) put.counts;
        aside = λ some. absurd (true≢false (sym (subst (λ o. IsSome o) c.in_ok-put.ensures.going some)));
        moved = λ did. omega (arith, took.counts.events, pulsed.counts.events, put.moved did);
        unmoved = λ did same. still_unmoved c.args.self.now c.pulse.new.self c.put_all.new.self
            (still_unmoved c.args.self.now c.take_all.new.self c.pulse.new.self (took.unmoved none.0) (pulsed.unmoved none.1)) (put.unmoved did);
        blocked = λ did going. ap (λ a. can_pulse a.last a.node.view) (put.unmoved did).alpha ∙ c.in_ok-pulsed.ensures.blocked none.1;
        puts_blocked = λ did going port lt. blocked-after c.pulse.new.self c.put_all.new.self port put.vertex (put.unmoved did)
            (c.in_ok-put.ensures.blocked did port (subst (λ n. port < n) put.degree lt));
        room = λ did going some can.
            let same = still_unmoved c.take_all.new.self c.pulse.new.self c.put_all.new.self (pulsed.unmoved none.1) (put.unmoved did) in
            same.room (c.in_ok-took.ensures.room none.0 (sym same.aside ∙ going) (subst (λ n. 0 < n) (put.degree ∙ pulsed.degree) some)
            (subst (λ a. IsTrue (can_take a.node.view)) same.alpha can));
        refused = tt;
        full = tt;
      };
    }
