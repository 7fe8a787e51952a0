use Rattle.std.proofs.Common.{◌∙◌, sym}
use Rattle.dimacs_col.proofs.Splitting.{line-cons, line-none}
use Rattle.transcripts.proofs.Either.{edition-blank, edition-none, edition-words}
use Rattle.transcripts.proofs.editions.is_edition.Goals as goal

-- the first line that has fields decides
pub returns-in-Some-next : goal.returns-in-Some-next
returns-in-Some-next c =
    let line = line-cons c.in-Some.fields c.next-in-Some.new.self c.in-Some-next.first.now c.in-Some-next.ensures.first c.next-in-Some.ensures.rest in
    c.begins_edition.ensures
    ∙ sym (c.each.invariant.left
    ∙ edition-words c.args.edition.now c.each.lines.1 c.in-Some.fields c.next-in-Some.new.self c.in-Some-next.first.now c.next.new.self.1
    c.in-Some.ensures.line line)

-- a line without a field doesn't
pub each-preserved : goal.each-preserved
each-preserved c = record {
  left = c.each.invariant.left
      ∙ edition-blank c.args.edition.now c.each.lines.1 c.in-Some.fields c.next.new.self.1 c.in-Some.ensures.line
      (line-none c.in-Some.fields c.in_default-next.ensures.first);
}

pub returns : goal.returns
returns c = sym (c.each.invariant.left ∙ edition-none c.args.edition.now c.each.lines.1 c.in_default.ensures.none)
