use Rattle.std.proofs.Common.{◌∙◌, ◌++◌, ◌∷◌, [], ap, refl, sym}
use Rattle.dimacs_col.proofs.Splitting.{line-cons, line-none}
use Rattle.transcripts.specs.EditionRows.{row_in}
use Rattle.transcripts.proofs.Readings.{header-right, header-wrong, known-blank, row-right, row-wrong}
use Rattle.transcripts.proofs.reading.step.Goals as goal

pub returns-in_default-clause-ok : goal.returns-in_default-clause-ok
returns-in_default-clause-ok g c =
    let word = c.args.edition.now in
    let row = row_in g.R.EditionRow.STAMPED g.R.EditionRow.made g.T.PayloadText.payload_of in
    known-blank word row c.args.reader.now.known c.args.fields (line-none c.args.fields c.in_default.ensures.first)

pub returns-in_default-row_in-clause-fault : goal.returns-in_default-row_in-clause-fault
returns-in_default-row_in-clause-fault g c =
    let word = c.args.edition.now in
    let row = row_in g.R.EditionRow.STAMPED g.R.EditionRow.made g.T.PayloadText.payload_of in
    let line = line-cons c.args.fields c.next.new.self c.in-Some.first.now c.in-Some.ensures.first c.next.ensures.rest in (
      row-wrong word row c.args.reader.now.known c.in-Some-known.known c.args.fields c.next.new.self c.in-Some.first.now c.in-Some-known.is line
          (sym c.row_in.ensures ∙ c.in_default-row_in.is),
      refl,
    )

pub returns-in_default-header_of-clause-fault : goal.returns-in_default-header_of-clause-fault
returns-in_default-header_of-clause-fault g c =
    let word = c.args.edition.now in
    let row = row_in g.R.EditionRow.STAMPED g.R.EditionRow.made g.T.PayloadText.payload_of in
    let line = line-cons c.args.fields c.next.new.self c.in-Some.first.now c.in-Some.ensures.first c.next.ensures.rest in (
      header-wrong word row c.args.reader.now.known c.args.fields c.next.new.self c.in-Some.first.now c.in-None.is line
          (sym c.header_of.ensures ∙ c.in_default-header_of.is),
      refl,
    )

pub returns-in_ok-push-in-Some-known-clause-ok : goal.returns-in_ok-push-in-Some-known-clause-ok
returns-in_ok-push-in-Some-known-clause-ok g c =
    let word = c.args.edition.now in
    let row = row_in g.R.EditionRow.STAMPED g.R.EditionRow.made g.T.PayloadText.payload_of in
    let line = line-cons c.args.fields c.next.new.self c.in-Some.first.now c.in-Some.ensures.first c.next.ensures.rest in
    row-right word row c.args.reader.now.known c.in-Some-known.known (c.known.inside.nodes, c.push.new.self.items) c.args.fields
    c.next.new.self c.in-Some.first.now c.in-Some-row_in.row c.in-Some-known.is line (sym c.row_in.ensures ∙ c.in-Some-row_in.is)
    (ap (λ l. (c.known.inside.nodes, l)) c.in_ok-push-in-Some-known.ensures.items
    ∙ ap (λ p. (p.0, p.1 ++ c.in-Some-row_in.row ∷ [])) c.known.view_is)

pub returns-in-Some-header_of-clause-ok : goal.returns-in-Some-header_of-clause-ok
returns-in-Some-header_of-clause-ok g c =
    let word = c.args.edition.now in
    let row = row_in g.R.EditionRow.STAMPED g.R.EditionRow.made g.T.PayloadText.payload_of in
    let line = line-cons c.args.fields c.next.new.self c.in-Some.first.now c.in-Some.ensures.first c.next.ensures.rest in
    header-right word row c.args.reader.now.known (c.in-Some-header_of.nodes, c.new.result.items) c.args.fields c.next.new.self
    c.in-Some.first.now c.in-Some-header_of.nodes c.in-None.is line (sym c.header_of.ensures ∙ c.in-Some-header_of.is)
    (ap (λ l. (c.in-Some-header_of.nodes, l)) c.new.ensures.items)
