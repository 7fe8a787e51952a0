use Rattle.std.proofs.Common.{◌∙◌, ap, sym}
use Rattle.transcripts.proofs.Payloads.{payload-none, payload-text}
use Rattle.transcripts.proofs.entry_line.payload_with.Goals as goal

pub returns-in-Ok : goal.returns-in-Ok
returns-in-Ok g c =
    c.from_words.ensures.payload
    ∙ ap (λ w. g.T.PayloadText.payload_of w c.args.number) c.in-Ok.ensures.cases.0
    ∙ sym (payload-text g.T.PayloadText.payload_of c.args.word.now c.args.number c.in-Ok.ensures.cases.1)

pub returns-in-Err : goal.returns-in-Err
returns-in-Err g c = sym (payload-none g.T.PayloadText.payload_of c.args.word.now c.args.number c.in-Err.ensures.cases.0)
