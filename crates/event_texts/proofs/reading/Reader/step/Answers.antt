use Rattle.std.proofs.Common.{◌∙◌, refl, sym}
use Rattle.dimacs_col.proofs.Splitting.{line-cons, line-none}
use Rattle.event_texts.proofs.Readings.{known-blank, known-event, known-passed, known-wrong}
use Rattle.event_texts.proofs.reading.Reader.step.Goals as goal

pub returns-in_default-clause-ok : goal.returns-in_default-clause-ok
returns-in_default-clause-ok c =
    known-blank c.args.number c.args.self.now.script.items c.args.fields (line-none c.args.fields c.in_default.ensures.first)

pub returns-then-passes-clause-ok : goal.returns-then-passes-clause-ok
returns-then-passes-clause-ok c =
    let line = line-cons c.args.fields c.next.new.self c.in-Some.word.now c.in-Some.ensures.first c.next.ensures.rest in
    known-passed c.args.number c.args.self.now.script.items c.args.fields c.next.new.self c.in-Some.word.now line
    (sym c.passes.ensures ∙ c.if-passes.true)

pub returns-in_default-event_with-clause-fault : goal.returns-in_default-event_with-clause-fault
returns-in_default-event_with-clause-fault c =
    let line = line-cons c.args.fields c.next.new.self c.in-Some.word.now c.in-Some.ensures.first c.next.ensures.rest in (
      known-wrong c.args.number c.args.self.now.script.items c.args.fields c.next.new.self c.in-Some.word.now line
          (sym c.passes.ensures ∙ c.if-passes.false) (sym c.event_with.ensures ∙ c.in_default-event_with.is),
      refl,
    )

pub returns-clause-ok : goal.returns-clause-ok
returns-clause-ok c =
    let line = line-cons c.args.fields c.next.new.self c.in-Some.word.now c.in-Some.ensures.first c.next.ensures.rest in
    known-event c.args.number c.args.self.now.script.items c.push.new.self.items c.args.fields c.next.new.self c.in-Some.word.now
    c.in-Some-event_with.event line (sym c.passes.ensures ∙ c.if-passes.false) (sym c.event_with.ensures ∙ c.in-Some-event_with.is) c.in_ok-push.ensures.items
