use Rattle.std.proofs.Common.{◌≡◌, ℕ, ◌-◌, ap, sym, ◌∙◌, arith}
use Rattle.std.specs.Prelude.{Option, IsTrue, false}
use Rattle.std.specs.Option.{option_or}
use Rattle.node_api.proofs.Reading.{fold_rest, fold_rest-read, fold_rest-end}
use Rattle.followed.specs.Said.{and_misplaced, firsts, then_port}
use Rattle.followed.proofs.HeardTo.{heard-all, heard-more, mail-is}
use Rattle.followed.proofs.hearing.hear.Goals as goal

pub loop-reader-preserved : goal.loop-reader-preserved
loop-reader-preserved g c =
    let after = c.next-payload.new.self in
    let port : ℕ = c.sender.result in
    let last : after.cursor - 1 ≡ port = omega (arith, c.sender.ensures.port) in
    record {
      same = c.next-payload.ensures.reads.same ∙ c.loop-reader.invariant.same;
      cursor = c.put_first-other.ensures.cursor ∙ c.loop-reader.invariant.cursor;
      heard = heard-more c.args.inbox.now.slots c.loop-reader.own.slots c.put_first-other.new.own.slots c.loop-reader.reader after c.next-payload.result port
          c.loop-reader.invariant.same c.loop-reader.invariant.heard c.next-payload.ensures.reads c.sender.ensures.port c.put_first-other.ensures.size
          c.put_first-other.ensures.here c.put_first-other.ensures.others;
      rest = ap (λ (found : Option ℕ). fold_rest and_misplaced found after)
          (c.or-found.ensures ∙ ap (option_or c.loop-reader.found) c.put_first-other.ensures.misplaced)
          ∙ (ap (λ (k : ℕ). fold_rest and_misplaced (option_or c.loop-reader.found (then_port k c.next-payload.result)) after) (sym last)
          ∙ (sym (fold_rest-read and_misplaced c.loop-reader.reader c.next-payload.result after c.loop-reader.found c.next-payload.ensures.reads)
          ∙ c.loop-reader.invariant.rest));
    }

pub returns-clause-misplaced : goal.returns-clause-misplaced
returns-clause-misplaced g c =
    sym (fold_rest-end and_misplaced c.loop-reader.reader c.loop-reader.found
    (λ h. let e : IsTrue false = c.loop-reader-test.ensures.more.1 h in (cc)))
    ∙ c.loop-reader.invariant.rest

pub returns-clause-heard : goal.returns-clause-heard
returns-clause-heard g c =
    let own = c.loop-reader.own in
    let all = heard-all c.args.inbox.now.slots own.slots c.loop-reader.reader c.loop-reader.invariant.same c.loop-reader.invariant.heard
    (λ h. let e : IsTrue false = c.loop-reader-test.ensures.more.1 h in (cc)) in
    mail-is own (firsts c.args.inbox.now.slots) all c.loop-reader.invariant.cursor
