use Rattle.std.proofs.Common.{◌≡◌, ◌==◌, All, ap, false, get_or, subst}
use Rattle.std.proofs.lemmas.List.{take_all}
use Rattle.std.proofs.lemmas.List.Elements.{All-more}
use Rattle.std.proofs.lemmas.List.Splits.{slice_split_none}
use Rattle.dimacs_col.proofs.LineEnds.{cut-here, no-feed}
use Rattle.dimacs_col.proofs.lines.line_end.Goals as goal

pub returns-then-byte-eq10-clause-found : goal.returns-then-byte-eq10-clause-found
returns-then-byte-eq10-clause-found c =
    cut-here c.args.text.now c.loop-index.index 0 c.loop-index-test.true c.loop-index.invariant.plain (ap (λ byte. byte == 10) c.if-byte-eq10.true)

pub loop-index-preserved : goal.loop-index-preserved
loop-index-preserved c = record {
  plain = All-more (λ byte. (byte == 10) ≡ false) c.args.text.now c.loop-index.index 0 c.loop-index-test.true c.loop-index.invariant.plain
      (no-feed (get_or c.args.text.now c.loop-index.index 0) c.if-byte-eq10.false);
}

pub returns-clause-none : goal.returns-clause-none
returns-clause-none c =
    slice_split_none (λ byte. byte == 10) c.args.text.now
    (subst (All (λ byte. (byte == 10) ≡ false)) (take_all c.loop-index.index c.args.text.now c.loop-index-test.false) c.loop-index.invariant.plain)
