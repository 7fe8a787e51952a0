use Rattle.std.proofs.Common.{◌≡◌, ◌∙◌, false, All, ap, append-nil, inl, inr, refl, subst, sym}
use Rattle.dimacs_col.specs.Lines.{lines_of}
use Rattle.channel_plan.specs.Reading.{reading_of}
use Rattle.dimacs_col.specs.Split.{begins}
use Rattle.channel_plan.specs.Split.{plan_word}
use Rattle.dimacs_col.proofs.Splitting.{front-all, last-line}
use Rattle.channel_plan.proofs.Readings.{read-empty}
use Rattle.channel_plan.proofs.split.split_plan.Goals as goal

pub returns-in-Some-clause-network : goal.returns-in-Some-clause-network
returns-in-Some-clause-network c = inr (ap lines_of c.split_at.ensures.front ∙ c.in-Some.ensures.before)

pub returns-in-Some-clause-plan : goal.returns-in-Some-clause-plan
returns-in-Some-clause-plan c = ap reading_of (ap lines_of c.split_at.ensures.back ∙ c.in-Some.ensures.from)

pub returns-in-None-clause-network : goal.returns-in-None-clause-network
returns-in-None-clause-network c = inl (sym c.in-None.ensures.none)

pub returns-in-None-clause-plan : goal.returns-in-None-clause-plan
returns-in-None-clause-plan c = ap reading_of last-line ∙ read-empty ∙ ap reading_of (sym c.in-None.ensures.no_text)

pub returns-in-None-clause-text : goal.returns-in-None-clause-text
returns-in-None-clause-text c = record {
  whole = append-nil c.args.input.now;
  before = subst (All (λ line. begins plan_word line ≡ false)) c.in-None.ensures.none (front-all plan_word (lines_of c.args.input.now));
  from = inl refl;
}
