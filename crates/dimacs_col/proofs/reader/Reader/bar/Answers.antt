-- The plan: the two numbers that were read are the fields of the line (as-bar), so a vertex or a channel out of range is told as the
-- definition says; the set then says whether the vertex has too many.
use Rattle.std.proofs.Common.{◌≡◌, ◌∙◌, ℕ, List, sym, ap, Some, arith, rules, true, false}
use Rattle.dimacs_col.specs.Kinds.{kind_of_word}
use Rattle.dimacs_col.specs.Lines.{Line, field_at}
use Rattle.dimacs_col.specs.State.{Knows, kept_number}
use Rattle.dimacs_col.specs.declared.fault.ColFault.TheVariants.{EarlyLine, VertexRange, ChannelRange, TooManyBars}
use Rattle.dimacs_col.specs.declared.kind.Kind.TheVariants.{Bar}
use Rattle.dimacs_col.proofs.Verdicts.{field_at-drop}
use Rattle.dimacs_col.proofs.BarLines.{IsBarLine, outside-told, channel-told, many-told, knows-barred, not-back}
use Rattle.dimacs_col.proofs.Refused.{bar_early, memory_judged}
use Rattle.dimacs_col.proofs.reader.Reader.bar.Goals as goal
use Rattle.dimacs_col.proofs.reader.Reader.bar.Goals.{In-Some-Some, then-channel-eq0-via-then-channel-eq0}
use Rattle.dimacs_col.proofs.reader.Reader.bar.Goals.{then-channel-eq0-via-else-channel-eq0+then-channel-from}

as-bar : (c : In-Some-Some) (before : List Line) (word : List ℕ) → Knows before c.args.self.now → kind_of_word word ≡ Bar →
    IsBarLine before word c.args.fields c.args.self.now c.in-Some.nodes c.in-Some-Some.v c.in-Some-Some.channel
as-bar c before word knows kind = record {
  knows = knows;
  kind = kind;
  nodes_is = c.in-Some.is;
  first = sym c.next_number.ensures.first ∙ c.in-Some-Some.is-0;
  second = sym (c.next_number-2.ensures.first ∙ ap (λ fs. kept_number (field_at fs 0)) c.next_number.ensures.rest ∙
      ap kept_number (field_at-drop c.args.fields 1 0)) ∙ c.in-Some-Some.is-1;
}

pub returns-then-v-eq0-clause-judged : goal.returns-then-v-eq0-clause-judged
returns-then-v-eq0-clause-judged c = λ before word knows line kind.
    let e = as-bar (goal.at.returns-then-v-eq0-clause-judged c).In-Some-Some before word knows kind in
    outside-told before word c.args.fields c.args.self.now c.in-Some.nodes c.in-Some-Some.v c.in-Some-Some.channel e (λ a b. omega arith) ∙
    ap (λ n. Some (VertexRange n)) (sym line)

pub returns-then-channel-eq0-clause-judged : goal.returns-then-channel-eq0-clause-judged
returns-then-channel-eq0-clause-judged c = λ before word knows line kind.
    let e = as-bar (goal.at.returns-then-channel-eq0-clause-judged c).In-Some-Some before word knows kind in
    channel-told before word c.args.fields c.args.self.now c.in-Some.nodes c.in-Some-Some.v c.in-Some-Some.channel e (omega arith) (omega arith)
    (λ a b. elim c.then-channel-eq0.branch [
      | then-channel-eq0-via-then-channel-eq0 w ↦ omega arith
      | then-channel-eq0-via-else-channel-eq0+then-channel-from w ↦ omega (arith, w.from.ensures)
    ]) ∙ ap (λ n. Some (ChannelRange n)) (sym line)

pub returns-then-not-branch-clause-judged : goal.returns-then-not-branch-clause-judged
returns-then-not-branch-clause-judged c = λ before word knows line kind.
    let e = as-bar (goal.at.returns-then-not-branch-clause-judged c).In-Some-Some before word knows kind in
    let refused : c.in_ok-insert.field-0 ≡ false = search rules in
    let many = (not-back _ _ (c.in_ok-insert.ensures.within knows.bars_counted)).1 refused in
    many-told before word c.args.fields c.args.self.now c.in-Some.nodes c.in-Some-Some.v c.in-Some-Some.channel e (omega arith) (omega arith)
    (omega arith) (omega arith) many ∙ ap (λ n. Some (TooManyBars n)) (sym line)

pub returns-clause-judged : goal.returns-clause-judged
returns-clause-judged c = λ before word knows line kind.
    let e = as-bar (goal.at.returns-clause-judged c).In-Some-Some before word knows kind in
    let taken : c.in_ok-insert.field-0 ≡ true = search rules in
    let few = (not-back _ _ (c.in_ok-insert.ensures.within knows.bars_counted)).0 taken in
    knows-barred before word c.args.fields c.args.self.now c.in-Some.nodes c.in-Some-Some.v c.in-Some-Some.channel e (omega arith) (omega arith)
    (omega arith) (omega arith) c.args.self.now.line c.insert.new.self few c.in_ok-insert.ensures.members
    (c.in_ok-insert.ensures.counted knows.bars_counted taken)

pub returns-in_default-clause-judged : goal.returns-in_default-clause-judged
returns-in_default-clause-judged c = λ before word knows line kind.
    bar_early before word c.args.fields (sym knows.nodes_are ∙ c.in_default.is) kind ∙ ap (λ n. Some (EarlyLine n)) (sym line)

pub returns-in_err-insert-clause-judged : goal.returns-in_err-insert-clause-judged
returns-in_err-insert-clause-judged c = λ before word knows line kind.
    memory_judged before _ _ c.from_residual.result c.from_residual.ensures.1
