use Rattle.std.proofs.Common.{◌+◌, ◌∙◌, ◌-◌, get_or, refl, sym, arith, length, true, false}
use Rattle.std.proofs.lemmas.Bool.{eqb-true, eqb-false}
use Rattle.dimacs_col.proofs.Numbers.{digits-front}
use Rattle.dimacs_col.proofs.SmallNumbers.{digits-more, great-front, small-empty, small-end, small-other}
use Rattle.dimacs_col.proofs.fields.small_number.Goals as goal

pub returns-then-is_empty : goal.returns-then-is_empty
returns-then-is_empty c = sym (small-empty c.args.field.now (eqb-true (length c.args.field.now) 0 (sym c.is_empty.ensures ∙ c.if-is_empty.true)))

pub returns-then-not-is_ascii_digit : goal.returns-then-not-is_ascii_digit
returns-then-not-is_ascii_digit c = sym (small-other c.args.field.now (c.loop-digit.invariant.digits ∙
    digits-front c.args.field.now c.loop-digit.digit-index false c.loop-digit-test.true (sym c.is_ascii_digit.ensures.value ∙ c.if-not-is_ascii_digit.true)))

pub returns-in_err-checked_mul : goal.returns-in_err-checked_mul
returns-in_err-checked_mul c =
    let e = sym c.is_ascii_digit.ensures.value ∙ c.if-not-is_ascii_digit.false in
    let digit = get_or c.args.field.now c.loop-digit.digit-index 0 - 48 in
    let more = digits-more c.args.field.now c.loop-digit.digit-index c.loop-digit.value digit c.loop-digit-test.true e c.loop-digit.invariant.value refl in
    c.from_residual.ensures ∙ sym (great-front c.args.field.now (c.loop-digit.digit-index + 1) c.loop-digit.value digit more (omega (
      arith,
      c.in_err-checked_mul.ensures,
    )))

pub returns-in_err-value : goal.returns-in_err-value
returns-in_err-value c =
    let e = sym c.is_ascii_digit.ensures.value ∙ c.if-not-is_ascii_digit.false in
    let more = digits-more c.args.field.now c.loop-digit.digit-index c.loop-digit.value c.from.result c.loop-digit-test.true e c.loop-digit.invariant.value
    c.from.ensures in
    c.from_residual-in_err-value.ensures ∙ sym (great-front c.args.field.now (c.loop-digit.digit-index + 1) c.loop-digit.value c.from.result more
    (omega (arith, c.in_ok-checked_mul.ensures, c.in_err-value.ensures)))

pub loop-digit-preserved : goal.loop-digit-preserved
loop-digit-preserved c =
    let e = sym c.is_ascii_digit.ensures.value ∙ c.if-not-is_ascii_digit.false in
    let more = digits-more c.args.field.now c.loop-digit.digit-index c.loop-digit.value c.from.result c.loop-digit-test.true e c.loop-digit.invariant.value
    c.from.ensures in record {
      small = omega (arith, c.in_ok-checked_mul.ensures, c.in_ok-value.ensures);
      value = omega (arith, more, c.in_ok-checked_mul.ensures, c.in_ok-value.ensures);
      digits = c.loop-digit.invariant.digits ∙ digits-front c.args.field.now c.loop-digit.digit-index true c.loop-digit-test.true e;
    }

pub returns : goal.returns
returns c = let some = eqb-false (length c.args.field.now) 0 (sym c.is_empty.ensures ∙ c.if-is_empty.false) in
    small-end c.args.field.now c.loop-digit.digit-index c.loop-digit.value c.loop-digit-test.false (omega (arith, some)) c.loop-digit.invariant.small
    c.loop-digit.invariant.value c.loop-digit.invariant.digits
