use Rattle.std.proofs.Common.{◌∙◌, ap, refl, sym}
use Rattle.std.specs.Option.{option_map}
use Rattle.channel_plan.proofs.Readings.{header-right, header-wrong, known-blank, row-right, row-wrong}
use Rattle.dimacs_col.proofs.Splitting.{line-cons, line-none}
use Rattle.channel_plan.specs.Reader.{known}
use Rattle.channel_plan.proofs.reading.Reader.step.Goals as goal

pub returns-in_default-clause-ok : goal.returns-in_default-clause-ok
returns-in_default-clause-ok c = known-blank (known c.args.self.now) c.args.fields (line-none c.args.fields c.in_default.ensures.first)

pub returns-in_default-row-clause-fault : goal.returns-in_default-row-clause-fault
returns-in_default-row-clause-fault c =
    let line = line-cons c.args.fields c.next.new.self c.in-Some.first.now c.in-Some.ensures.first c.next.ensures.rest in (
      row-wrong (known c.args.self.now) c.in-Some-rows.rows.items c.args.fields c.next.new.self c.in-Some.first.now
          (ap (option_map (λ rows. rows.items)) c.in-Some-rows.is) line (sym c.row.ensures ∙ c.in_default-row.is),
      refl,
    )

pub returns-then-not-is_header-clause-fault : goal.returns-then-not-is_header-clause-fault
returns-then-not-is_header-clause-fault c =
    let line = line-cons c.args.fields c.next.new.self c.in-Some.first.now c.in-Some.ensures.first c.next.ensures.rest in (
      header-wrong (known c.args.self.now) c.args.fields c.next.new.self c.in-Some.first.now (ap (option_map (λ rows. rows.items)) c.in-None.is) line
          (sym c.is_header.ensures ∙ c.if-not-is_header.true),
      refl,
    )

pub returns-in_ok-push-in-Some-rows-clause-ok : goal.returns-in_ok-push-in-Some-rows-clause-ok
returns-in_ok-push-in-Some-rows-clause-ok c =
    let line = line-cons c.args.fields c.next.new.self c.in-Some.first.now c.in-Some.ensures.first c.next.ensures.rest in
    row-right (known c.args.self.now) c.in-Some-rows.rows.items c.push.new.self.items c.args.fields c.next.new.self c.in-Some.first.now c.in-Some-row.row
    (ap (option_map (λ rows. rows.items)) c.in-Some-rows.is) line (sym c.row.ensures ∙ c.in-Some-row.is) c.in_ok-push-in-Some-rows.ensures.items

pub returns-else-not-is_header-clause-ok : goal.returns-else-not-is_header-clause-ok
returns-else-not-is_header-clause-ok c =
    let line = line-cons c.args.fields c.next.new.self c.in-Some.first.now c.in-Some.ensures.first c.next.ensures.rest in
    header-right (known c.args.self.now) c.new.result.items c.args.fields c.next.new.self c.in-Some.first.now
    (ap (option_map (λ rows. rows.items)) c.in-None.is) line (sym c.is_header.ensures ∙ c.if-not-is_header.false) c.new.ensures.items
