use Rattle.std.proofs.Common.{◌≡◌, ◌+◌, arith, ◌∙◌, ◌++◌, ap, length, refl}
use Rattle.event_texts.specs.Missing.{name_text}
use Rattle.number_rows.proofs.Ranges.{texts-more}
use Rattle.std.specs.List.{flat_map, range_with_len}
use Rattle.dimacs_col.proofs.Refused.{err_says}
use Rattle.event_texts.proofs.Written.{at_end}
use Rattle.event_texts.proofs.missing.push_names.Goals as goal

pub loop-i-preserved : goal.loop-i-preserved
loop-i-preserved c =
    let same : 0 + c.loop-i.i ≡ c.loop-i.i = omega arith in
    texts-more (λ i. name_text c.args.names.now i) 0 c.loop-i.i c.loop-i.i c.args.text.now.items c.loop-i.text.items c.push_name.new.text.items same
    c.loop-i.invariant c.in_ok-push_name.ensures

pub returns : goal.returns
returns c =
    c.loop-i.invariant ∙ ap (λ n. c.args.text.now.items ++ flat_map (λ i. name_text c.args.names.now i) (range_with_len 0 n))
    (at_end c.loop-i.i (length c.args.names.now) (length c.args.names.now) c.loop-i.auto.i-end c.loop-i-test.false refl)

pub returns-in_err-push_name : goal.returns-in_err-push_name
returns-in_err-push_name c = err_says _ _ c.from_residual.result c.from_residual.ensures.1
