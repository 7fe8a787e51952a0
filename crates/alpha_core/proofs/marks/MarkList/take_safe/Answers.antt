-- The plan: there were as many safes as come before this one (safes-seen). So it sets one flag (safe-taken), and one count counts it
-- (now-counted, next-counted).
use Rattle.std.proofs.Common.{◌+◌, ap, ◌∙◌, arith}
use Rattle.alpha_core.specs.When.{mark_safe, safes_before}
use Rattle.alpha_core.proofs.Kept.{inside, marks-set, next-counted, now-counted, one_more, safes-seen, safe-taken}
use Rattle.alpha_core.proofs.KeptFlags.{count-fits}
use Rattle.alpha_core.proofs.marks.MarkList.take_safe.Goals as goal

pub index_mut-requires : goal.index_mut-requires
index_mut-requires c =
    let a = c.self.inside in
    omega (arith, inside a.pulse a.kept.items c.args.self.now c.self.view_is c.args.port c.requires.port, a.kept.ok.0)

pub overflow_add-self : goal.overflow_add-self
overflow_add-self c =
    let a = c.self.inside in
    omega (arith, c.self.invariant.safes, count-fits a.pulse a.kept.items (λ m. m.safe), a.kept.ok.0)

pub overflow_add-self-in-Next : goal.overflow_add-self-in-Next
overflow_add-self-in-Next c =
    let a = c.self.inside in
    omega (arith, c.self.invariant.early_safes, count-fits a.pulse a.kept.items (λ m. m.early_safe), a.kept.ok.0)

pub invariant_of-self : goal.invariant_of-self
invariant_of-self c =
    let a = c.self.inside in
    let o = c.index_mut.result.now in
    now-counted a.pulse a.kept.items c.args.self.now c.self.view_is c.args.port o c.index_mut.ensures.value c.requires.port c.self.invariant
    (safes-seen a.pulse a.kept.items c.args.self.now c.self.view_is c.args.port o c.index_mut.ensures.value c.requires.port c.self.invariant.in_step
    ∙ ap (λ n. a.pulse + n) (c.requires.next ∙ ap (λ w. safes_before w) c.in-Now.is))

pub returns-in-Now : goal.returns-in-Now
returns-in-Now c =
    let a = c.self.inside in
    let o = c.index_mut.result.now in
    let at =
    safes-seen a.pulse a.kept.items c.args.self.now c.self.view_is c.args.port o c.index_mut.ensures.value c.requires.port c.self.invariant.in_step
    ∙ ap (λ n. a.pulse + n) c.requires.next in
    record {
      set = marks-set a.pulse a.kept.items c.args.self.now c.self.view_is c.args.port o (one_more o) c.index_mut.ensures.value c.requires.port
          (λ m. mark_safe c.args.when m) (safe-taken a.pulse o c.args.when at);
    }

pub invariant_of-self-in-Next : goal.invariant_of-self-in-Next
invariant_of-self-in-Next c =
    let a = c.self.inside in
    let o = c.index_mut.result.now in
    next-counted a.pulse a.kept.items c.args.self.now c.self.view_is c.args.port o c.index_mut.ensures.value c.requires.port c.self.invariant
    (safes-seen a.pulse a.kept.items c.args.self.now c.self.view_is c.args.port o c.index_mut.ensures.value c.requires.port c.self.invariant.in_step
    ∙ ap (λ n. a.pulse + n) (c.requires.next ∙ ap (λ w. safes_before w) c.in-Next.is))

pub returns-in-Next : goal.returns-in-Next
returns-in-Next c =
    let a = c.self.inside in
    let o = c.index_mut.result.now in
    let at =
    safes-seen a.pulse a.kept.items c.args.self.now c.self.view_is c.args.port o c.index_mut.ensures.value c.requires.port c.self.invariant.in_step
    ∙ ap (λ n. a.pulse + n) c.requires.next in
    record {
      set = marks-set a.pulse a.kept.items c.args.self.now c.self.view_is c.args.port o (one_more o) c.index_mut.ensures.value c.requires.port
          (λ m. mark_safe c.args.when m) (safe-taken a.pulse o c.args.when at);
    }
