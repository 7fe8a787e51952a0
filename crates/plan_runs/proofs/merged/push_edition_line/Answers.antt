use Rattle.std.proofs.Common.{◌≡◌, ◌∙◌, ◌++◌, ap, subst, sym}
use Rattle.std.specs.Prelude.{IfOk}
use Rattle.transcripts.specs.TranscriptText.{first_line_of, named_edition}
use Rattle.plan_runs.proofs.Editions.{edition-named, edition-plain}
use Rattle.plan_runs.proofs.merged.push_edition_line.Goals as goal

-- the words of the edition, by whether the program is named
pub returns-then-is_named : goal.returns-then-is_named
returns-then-is_named g c =
    subst (λ words. IfOk c.push_named_line.result (λ _. c.push_named_line.new.text.items ≡ c.args.text.now.items ++ first_line_of words c.args.count))
    (ap named_edition c.name.ensures.name ∙ edition-named g.P.ProgramText.texts (sym c.is_named.ensures.named ∙ c.if-is_named.true))
    c.push_named_line.ensures.text

pub returns-else-is_named : goal.returns-else-is_named
returns-else-is_named g c =
    subst (λ words. IfOk c.push_stamped_line.result (λ _. c.push_stamped_line.new.text.items ≡ c.args.text.now.items ++ first_line_of words c.args.count))
    (edition-plain g.P.ProgramText.texts (sym c.is_named.ensures.named ∙ c.if-is_named.false)) c.push_stamped_line.ensures.text
