-- The plan: if nothing was put so far, the node is as it was; so what blocks a port now did so before the first put.
use Rattle.std.proofs.Common.{◌≡◌, arith, false, refl, sym, true≢false, ◌∙◌}
use Rattle.wired_nodes.specs.Blocked.{IsUnmoved}
use Rattle.wired_nodes.proofs.Counting.{counts_both}
use Rattle.wired_nodes.proofs.Unmoved.{blocked-before, blocked-more, still_unmoved}
use Rattle.wired_nodes.proofs.node.Node.put_all.Goals.{then-branch-2, else-branch-2}
use Rattle.wired_nodes.proofs.node.Node.put_all.Goals as goal

-- nothing was put by this port, and it is blocked
pub loop-port-preserved-then-is_blocked : goal.loop-port-preserved-then-is_blocked
loop-port-preserved-then-is_blocked g c =
    let old = c.args.self.now in
    let inv = c.loop-port.invariant in
    let some = c.in_ok-put_some.ensures.stepped in
    let asked = c.is_blocked.ensures in
    let tried : c.loop-port.put ≡ false → IsUnmoved old c.put_some.new.self =
    λ none. still_unmoved old c.loop-port.self c.put_some.new.self (inv.unmoved none) (some.unmoved c.if-branch.false) in
    record {
      vertex = asked.stepped.vertex ∙ some.vertex ∙ inv.vertex;
      going = asked.going;
      degree = asked.stepped.degree ∙ some.degree ∙ inv.degree;
      refusal = asked.stepped.refusal ∙ some.refusal ∙ inv.refusal;
      counts = counts_both old c.put_some.new.self c.is_blocked.new.self (counts_both old c.loop-port.self c.put_some.new.self inv.counts some.counts)
          asked.stepped.counts;
      moved = λ did. omega (arith, inv.moved did, some.counts.events, asked.stepped.counts.events);
      unmoved = λ none. still_unmoved old c.put_some.new.self c.is_blocked.new.self (tried none) (asked.stepped.unmoved refl);
      blocked = λ none. blocked-more old c.loop-port.port (inv.blocked none)
          (blocked-before old c.put_some.new.self c.loop-port.port (some.vertex ∙ inv.vertex) (tried none) (asked.blocked c.if-is_blocked.true));
    }

-- it wasn't blocked, and was tried again
pub loop-port-preserved : goal.loop-port-preserved
loop-port-preserved g c =
    let old = c.args.self.now in
    let inv = c.loop-port.invariant in
    let some = c.in_ok-put_some.ensures.stepped in
    let asked = c.is_blocked.ensures.stepped in
    let again = c.in_ok-put_again.ensures in
    let tried : c.loop-port.put ≡ false → IsUnmoved old c.is_blocked.new.self =
    λ none. still_unmoved old c.put_some.new.self c.is_blocked.new.self
    (still_unmoved old c.loop-port.self c.put_some.new.self (inv.unmoved none) (some.unmoved c.if-branch.false)) (asked.unmoved refl) in
    record {
      vertex = again.stepped.vertex ∙ asked.vertex ∙ some.vertex ∙ inv.vertex;
      going = again.going;
      degree = again.stepped.degree ∙ asked.degree ∙ some.degree ∙ inv.degree;
      refusal = again.stepped.refusal ∙ asked.refusal ∙ some.refusal ∙ inv.refusal;
      counts = counts_both old c.is_blocked.new.self c.put_again.new.self (counts_both old c.put_some.new.self c.is_blocked.new.self
          (counts_both old c.loop-port.self c.put_some.new.self inv.counts some.counts) asked.counts) again.stepped.counts;
      moved = λ did. elim c.if-branch-2.branch [
        | then-branch-2 w ↦
            omega (arith, inv.counts.events, some.counts.events, asked.counts.events, again.stepped.moved w.if-branch-2.true)
        | else-branch-2 w ↦
            omega (arith, inv.moved (sym w.put-is ∙ did), some.counts.events, asked.counts.events, again.stepped.counts.events)
      ];
      unmoved = λ none. elim c.if-branch-2.branch [
        | then-branch-2 w ↦ absurd (true≢false (sym w.put-is ∙ none))
        | else-branch-2 w ↦
            still_unmoved old c.is_blocked.new.self c.put_again.new.self (tried (sym w.put-is ∙ none)) (again.stepped.unmoved w.if-branch-2.false)
      ];
      blocked = λ none k lt. elim c.if-branch-2.branch [
        | then-branch-2 w ↦ absurd (true≢false (sym w.put-is ∙ none))
        | else-branch-2 w ↦
            let before = sym w.put-is ∙ none in
            blocked-more old c.loop-port.port (inv.blocked before)
            (blocked-before old c.is_blocked.new.self c.loop-port.port (asked.vertex ∙ some.vertex ∙ inv.vertex) (tried before)
            (again.blocked w.if-branch-2.false)) k lt
      ];
    }
