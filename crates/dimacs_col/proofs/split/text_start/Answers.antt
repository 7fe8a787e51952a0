-- The plan: the line at hand is a part of the text between two line feeds (here), so the text is cut at its beginning
-- (cut); none of the lines before it begins with one of the words; if it does, it is the first of the lines from there on
-- (lines). At the end every line was looked at (none-begins).
use Rattle.std.proofs.Common.{◌==◌, ◌≡◌, ◌<◌, ◌+◌, ◌++◌, ◌∷◌, [], ◌∙◌, List, ℕ, true, ap, arith, drop, get_or, inr, length, map, rules, suc}
use Rattle.std.proofs.Common.{subst, sym, take, tests}
use Rattle.std.specs.Slice.Iter.{split_callee, split_done, split_rest}
use Rattle.std.proofs.lemmas.Iterator.Splits.{YieldsList-from_slice_split}
use Rattle.std.proofs.lemmas.List.{length-append, map-append, map_push, take-append-drop}
use Rattle.dimacs_col.specs.Lines.{Line, line_of, lines_of}
use Rattle.dimacs_col.proofs.Whole.{items-at_end, items-at_turn, length-mapped, lines-at_turn, map-twice}
use Rattle.dimacs_col.specs.Split.{EndsLine, begins, lines_before, lines_from, words_in}
use Rattle.dimacs_col.proofs.Parts.{IsCut, closed, closed-push, parts-around, parts_of, text-cut}
use Rattle.dimacs_col.proofs.Splitting.{AreBefore, before-end, before-text, before-push, empty-line, front-text}
use Rattle.dimacs_col.proofs.split.text_start.Goals as goal
use Rattle.dimacs_col.proofs.split.text_start.Goals.{In-None, In-Some}

here : (c : In-Some) → (map (λ x. x.now) c.loop-line.yielded ≡ take (length c.loop-line.yielded) (parts_of c.args.input.now))
    × (length c.loop-line.yielded < length (parts_of c.args.input.now))
    × (c.in-Some.line.now ≡ get_or (parts_of c.args.input.now) (length c.loop-line.yielded) c.in-Some.line.now)
here c =
    let gives = c.into_iter-line-iterator.ensures.into_iter_gives in
    items-at_turn {all = parts_of c.args.input.now} c.loop-line.yielded c.loop-line.line-iterator c.loop-line.yielded_by c.next.result c.next.new.self
    c.in-Some.line c.in-Some.is c.next.ensures.steps
    (YieldsList-from_slice_split _ (λ byte. byte == 10) c.args.input.now (ap split_rest gives ∙ c.split-line-items.ensures.rest) (ap split_done gives ∙
    c.split-line-items.ensures.done) (ap split_callee gives ∙ c.split-line-items.ensures.closure) (λ x r q k. search (rules, tests)))

abbrev after : In-Some → List (List ℕ)
after c = drop (suc (length c.loop-line.yielded)) (parts_of c.args.input.now)

cut : (c : In-Some) → IsCut c.args.input.now (map (λ x. x.now) c.loop-line.yielded) c.in-Some.line.now (after c)
cut c =
    text-cut c.args.input.now (map (λ x. x.now) c.loop-line.yielded) c.in-Some.line.now (after c)
    (parts-around (λ x. x.now) (parts_of c.args.input.now) c.loop-line.yielded c.in-Some.line (here c))

abbrev before : In-Some → List Line
before c = map (λ x. line_of x.now) c.loop-line.yielded

lines : (c : In-Some) → begins (words_in c.args.words.now) (line_of c.in-Some.line.now) ≡ true
    → (lines_before (words_in c.args.words.now) (lines_of c.args.input.now) ≡ before c) ×
    (lines_from (words_in c.args.words.now) (lines_of c.args.input.now) ≡ line_of c.in-Some.line.now ∷ map line_of (after c))
unfolding lines_of
lines c begins =
    let is = before-text (words_in c.args.words.now) (before c) (line_of c.in-Some.line.now) (map line_of (after c)) begins c.loop-line.invariant.before in
    let all = lines-at_turn (λ x. x.now) (parts_of c.args.input.now) c.loop-line.yielded c.in-Some.line (here c) in
    (ap (lines_before (words_in c.args.words.now)) all ∙ is.0, ap (lines_from (words_in c.args.words.now)) all ∙ is.1)

pub returns-then-begins-clause-within : goal.returns-then-begins-clause-within
returns-then-begins-clause-within c =
    omega (arith, c.loop-line.invariant.bytes, (cut (goal.at.returns-then-begins-clause-within c).In-Some).within)

front : (c : In-Some) → begins (words_in c.args.words.now) (line_of c.in-Some.line.now) ≡ true →
    lines_of (take c.loop-line.start.bytes c.args.input.now) ≡ lines_before (words_in c.args.words.now) (lines_of c.args.input.now) ++ [] ∷ []
unfolding lines_of
front c begins =
    ap (λ k. lines_of (take k c.args.input.now)) c.loop-line.invariant.bytes ∙ ap (map line_of) (cut c).front
    ∙ map-append line_of (map (λ x. x.now) c.loop-line.yielded) ([] ∷ [])
    ∙ ap (λ l. map line_of (map (λ x. x.now) c.loop-line.yielded) ++ l ∷ []) empty-line
    ∙ ap (λ ls. ls ++ [] ∷ []) (map-twice line_of (λ x. x.now) c.loop-line.yielded ∙ sym (lines c begins).0)

back : (c : In-Some) → lines_of (drop c.loop-line.start.bytes c.args.input.now) ≡ line_of c.in-Some.line.now ∷ map line_of (after c)
unfolding lines_of
back c = ap (λ k. lines_of (drop k c.args.input.now)) c.loop-line.invariant.bytes ∙ ap (map line_of) (cut c).back

pub returns-then-begins-clause-before : goal.returns-then-begins-clause-before
returns-then-begins-clause-before c =
    front (goal.at.returns-then-begins-clause-before c).In-Some (sym c.begins.ensures ∙ c.if-begins.true)

pub returns-then-begins-clause-from : goal.returns-then-begins-clause-from
returns-then-begins-clause-from c =
    let at = (goal.at.returns-then-begins-clause-from c).In-Some in
    back at ∙ sym (lines at (sym c.begins.ensures ∙ c.if-begins.true)).1

pub returns-then-begins-clause-cut : goal.returns-then-begins-clause-cut
returns-then-begins-clause-cut c =
    let at = (goal.at.returns-then-begins-clause-cut c).In-Some in
    let begins : begins (words_in c.args.words.now) (line_of c.in-Some.line.now) ≡ true = sym c.begins.ensures ∙ c.if-begins.true in
    record {
      whole = take-append-drop c.loop-line.start.bytes c.args.input.now;
      before = front-text (words_in c.args.words.now) (lines_of c.args.input.now) (lines_of (take c.loop-line.start.bytes c.args.input.now)) (front at begins);
      from = inr (
        subst (λ k. EndsLine (take k c.args.input.now)) (sym c.loop-line.invariant.bytes) (cut at).ends,
        (line_of c.in-Some.line.now, map line_of (after at), back at, begins),
      );
    }

pub overflow_add-start-in-loop-line : goal.overflow_add-start-in-loop-line
overflow_add-start-in-loop-line c =
    omega (arith, c.loop-line.invariant.bytes, (cut (goal.at.overflow_add-start-in-loop-line c).In-Some).within)

pub returns-then-begins-clause-lines : goal.returns-then-begins-clause-lines
returns-then-begins-clause-lines c =
    let at = (goal.at.returns-then-begins-clause-lines c).In-Some in
    c.loop-line.invariant.lines ∙ sym (length-mapped (λ x. line_of x.now) c.loop-line.yielded)
    ∙ ap length (sym (lines at (sym c.begins.ensures ∙ c.if-begins.true)).0)

pub loop-line-preserved : goal.loop-line-preserved
loop-line-preserved c = record {
  steps = search rules;
  before = subst (AreBefore (words_in c.args.words.now)) (sym (map_push (λ x. line_of x.now) c.loop-line.yielded c.in-Some.line))
      (before-push (words_in c.args.words.now) (map (λ x. line_of x.now) c.loop-line.yielded) (line_of c.in-Some.line.now) (sym c.begins.ensures ∙
      c.if-begins.false) c.loop-line.invariant.before);
  lines = omega (arith, c.loop-line.invariant.lines, length-append c.loop-line.yielded (c.in-Some.line ∷ []));
  short = omega (arith, c.loop-line.invariant.short);
  bytes = ap (λ k. k + (length c.in-Some.line.now + 1)) c.loop-line.invariant.bytes
      ∙ sym (ap (λ ps. length (closed ps)) (map_push (λ x. x.now) c.loop-line.yielded c.in-Some.line) ∙
      closed-push (map (λ x. x.now) c.loop-line.yielded) c.in-Some.line.now);
}

none-begins : (c : In-None) → (lines_before (words_in c.args.words.now) (lines_of c.args.input.now) ≡ lines_of c.args.input.now) ×
    (lines_from (words_in c.args.words.now) (lines_of c.args.input.now) ≡ [])
unfolding lines_of
none-begins c =
    let gives = c.into_iter-line-iterator.ensures.into_iter_gives in
    let all = items-at_end c.loop-line.yielded c.loop-line.line-iterator c.loop-line.yielded_by c.next.result c.next.new.self c.in-None.is c.next.ensures.steps
    (YieldsList-from_slice_split _ (λ byte. byte == 10) c.args.input.now (ap split_rest gives ∙ c.split-line-items.ensures.rest) (ap split_done gives ∙
    c.split-line-items.ensures.done) (ap split_callee gives ∙ c.split-line-items.ensures.closure) (λ x r q k. search (rules, tests))) in
    subst (λ ls. (lines_before (words_in c.args.words.now) ls ≡ ls) × (lines_from (words_in c.args.words.now) ls ≡ []))
    (sym (map-twice line_of (λ x. x.now) c.loop-line.yielded) ∙ ap (map line_of) all)
    (before-end (words_in c.args.words.now) (map (λ x. line_of x.now) c.loop-line.yielded) c.loop-line.invariant.before)

pub returns-clause-none : goal.returns-clause-none
returns-clause-none c = (none-begins (goal.at.returns-clause-none c).In-None).0

pub returns-clause-no_text : goal.returns-clause-no_text
returns-clause-no_text c = (none-begins (goal.at.returns-clause-no_text c).In-None).1
