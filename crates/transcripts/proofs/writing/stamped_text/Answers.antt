use Rattle.std.proofs.Common.{◌++◌, ◌∙◌, ap, codes}
use Rattle.dimacs_col.specs.Lines.{lines_of}
use Rattle.program_texts.specs.PayloadTexts.{payload_texts}
use Rattle.transcripts.specs.Reading.{stamped_reading_of}
use Rattle.transcripts.specs.TranscriptText.{first_line_of}
use Rattle.transcripts.proofs.RowsSoFar.{all-written, none-written, one-written}
use Rattle.transcripts.proofs.Written.{written-two}
use Rattle.transcripts.proofs.writing.stamped_text.Goals as goal

pub loop-row-init : goal.loop-row-init
loop-row-init g c = record {
  so_far = none-written c.push_stamped_line.new.text.items
      (c.in_ok-push_stamped_line.ensures.text ∙ ap (λ t. t ++ first_line_of (codes "2") c.args.nodes) c.new-text.ensures.items);
}

pub loop-row-preserved : goal.loop-row-preserved
loop-row-preserved g c = record {
  so_far = one-written c.args.rows.now c.loop-row.row-index c.loop-row.text.items c.loop-row.invariant.so_far c.row-item.result
      c.push_stamped_row.new.text.items c.loop-row-test.true c.row-item.is c.in_ok-push_stamped_row.ensures.text
      c.in_ok-push_stamped_row.ensures.readable;
}

pub returns-clause-text : goal.returns-clause-text
returns-clause-text g c =
    (all-written c.args.rows.now c.loop-row.row-index c.loop-row.text.items c.loop-row.invariant.so_far c.loop-row-test.false).text_is

pub returns-clause-reads_back : goal.returns-clause-reads_back
returns-clause-reads_back g c =
    let m = g.T.PayloadText in
    let all = all-written c.args.rows.now c.loop-row.row-index c.loop-row.text.items c.loop-row.invariant.so_far c.loop-row-test.false in
    ap (λ t. stamped_reading_of m.payload_of (lines_of t)) all.text_is
    ∙ written-two (payload_texts m) m.letters c.args.nodes c.args.rows.now c.ranges.nodes.fits all.readable
