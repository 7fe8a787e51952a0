-- What is still to be heard (`rest`) stays the same from payload to payload, so at the end what is known is what is heard.
use Rattle.std.proofs.Common.{◌≡◌, ℕ, ◌-◌, Ok, Err, ap, sym, ◌∙◌, arith}
use Rattle.std.specs.Prelude.{Some, Result, IsTrue, false, drop, max}
use Rattle.node_api.specs.declared.program.Refused.{Refused}
use Rattle.node_api.proofs.Reading.{fold_rest, fold_rest-read, fold_rest-end}
use Rattle.leader.specs.declared.rules.TheConstants.{AFTER_LAST}
use Rattle.leader.specs.Election.{and_heard}
use Rattle.leader.proofs.Heard.{heard-early, heard-late, refused-stays}
use Rattle.leader.proofs.hearing.greatest.Goals as goal

pub returns-then-last-pulse : goal.returns-then-last-pulse
returns-then-last-pulse c =
    record {
      heard =
          let last = c.args.last in
          let pulse = c.args.pulse in
          let after = c.next-id.new.self in
          let port : ℕ = after.cursor - 1 in
          let same : c.sender.result ≡ port = omega (arith, c.sender.ensures.port) in
          let refusal : ℕ → Result ℕ Refused = λ k. Err (record { rule = AFTER_LAST; port = Some k }) in
          sym (sym c.loop-reader.invariant.rest
          ∙ (fold_rest-read (and_heard last pulse) c.loop-reader.reader c.next-id.result after (Ok c.loop-reader.best) c.next-id.ensures.reads
          ∙ (ap (λ (r : Result ℕ Refused). fold_rest (and_heard last pulse) r after)
          (heard-late last pulse c.loop-reader.best port c.next-id.result c.if-last-pulse.true)
          ∙ (refused-stays last pulse after.cursor (record { rule = AFTER_LAST; port = Some port }) (drop after.cursor after.slots)
          ∙ ap refusal (sym same)))));
    }

pub loop-reader-preserved : goal.loop-reader-preserved
loop-reader-preserved c =
    let last = c.args.last in
    let pulse = c.args.pulse in
    let after = c.next-id.new.self in
    let port : ℕ = after.cursor - 1 in
    let value : max c.loop-reader.best c.next-id.result.0 ≡ c.max-best.result = omega (arith, c.max-best.ensures) in
    record {
      same = c.next-id.ensures.reads.same ∙ c.loop-reader.invariant.same;
      rest = ap (λ (best : ℕ). fold_rest (and_heard last pulse) (Ok best) after) (sym value)
          ∙ (ap (λ (r : Result ℕ Refused). fold_rest (and_heard last pulse) r after)
          (sym (heard-early last pulse c.loop-reader.best port c.next-id.result (omega (arith, c.if-last-pulse.false))))
          ∙ (sym (fold_rest-read (and_heard last pulse) c.loop-reader.reader c.next-id.result after (Ok c.loop-reader.best) c.next-id.ensures.reads)
          ∙ c.loop-reader.invariant.rest));
    }

pub returns : goal.returns
returns c =
    record {
      heard =
          sym (fold_rest-end (and_heard c.args.last c.args.pulse) c.loop-reader.reader (Ok c.loop-reader.best)
          (λ h. let e : IsTrue false = c.loop-reader-test.ensures.more.1 h in (cc)))
          ∙ c.loop-reader.invariant.rest;
    }
