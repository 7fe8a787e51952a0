-- At each turn the first `done` bytes stand in the output. A write that takes n makes them done + n;
-- one that takes nothing, or fails, leaves them, and they are a beginning of all.
use Rattle.std.proofs.Common.{◌≡◌, ◌-◌, ◌++◌, ◌==◌, ◌∙◌, ℕ, Option, Some, None, false, cond, length, take, drop}
use Rattle.std.proofs.Common.{sym, ap, subst, rules, arith, length-take, take-append-drop, append-nil}
use lib.Seq.{take-add, take-take}
use Rattle.std.specs.Io.KnownBytes.{Appends}
use Rattle.std.proofs.KnownBytes.{Appends-trans, Appends-kept}
use Rattle.whole_streams.specs.Counts.{CountsOn}
use Rattle.whole_streams.proofs.sink.write_whole.Goals as goal

no-fault-yet : (a b c : Option ℕ) → CountsOn a 0 b → CountsOn b 0 c → CountsOn a 0 c
no-fault-yet None b c p q = tt
no-fault-yet (Some x) None c p q = absurd p
no-fault-yet (Some x) (Some y) None p q = absurd q
no-fault-yet (Some x) (Some y) (Some z) p q = omega arith

a-write-that-takes-some : (a b c : Option ℕ) (n : ℕ) → (n == 0) ≡ false
    → CountsOn a 0 b → CountsOn b (cond (n == 0) 1 0) c → CountsOn a 0 c
a-write-that-takes-some a b c n some p q = no-fault-yet a b c p (subst (λ t. CountsOn b (cond t 1 0) c) some q)

pub loop-done-preserved : goal.loop-done-preserved
loop-done-preserved g c =
    let done = c.loop-done.done in
    let n = c.in-Ok.count in
    let xs = c.args.bytes.now in
    let before = c.loop-done.invariant in
    let some : (n == 0) ≡ false = search rules in
    let fits = c.in-Ok.ensures.bound in
    let most = length-take (length xs - done) (drop done xs) in
    let joined = ap (λ l. take done xs ++ l) (take-take n (length xs - done) (drop done xs) (omega arith))
    ∙ sym (take-add done n xs) in (
      omega arith,
      subst (Appends _ _) joined (Appends-trans _ _ _ _ _ before.1 c.in-Ok.ensures.bytes),
      a-write-that-takes-some (g.W.Sink.faults c.args.output.now) (g.W.Sink.faults c.loop-done.output)
          (g.W.Sink.faults c.put_some.new.self) n some before.2 c.in-Ok.ensures.faults,
    )

pub returns-in-Ok-eq0-clause-begin : goal.returns-in-Ok-eq0-clause-begin
returns-in-Ok-eq0-clause-begin g c =
    let done = c.loop-done.done in
    let xs = c.args.bytes.now in
    let all = Appends-trans _ _ _ _ _ c.loop-done.invariant.1 c.in-Ok-eq0.ensures.bytes in
    let none : c.in-Ok-eq0.field-0 ≡ 0 = search rules in
    let same = ap (λ n. take done xs ++ take n (take (length xs - done) (drop done xs))) none
    ∙ append-nil (take done xs) in
    (take done xs, drop done xs, take-append-drop done xs, subst (Appends _ _) same all)

pub returns-in-Err-clause-begin : goal.returns-in-Err-clause-begin
returns-in-Err-clause-begin g c =
    let done = c.loop-done.done in
    let xs = c.args.bytes.now in (
      take done xs,
      drop done xs,
      take-append-drop done xs,
      Appends-kept _ _ _ _ c.loop-done.invariant.1 c.in-Err.ensures.bytes,
    )

pub returns-clause-quiet : goal.returns-clause-quiet
returns-clause-quiet g c = search rules
