-- What is still to be heard (`rest`) stays the same from payload to payload, so at the end the first port is what is heard.
use Rattle.std.proofs.Common.{◌≡◌, ℕ, ◌-◌, Ok, Err, ap, sym, ◌∙◌, arith}
use Rattle.std.specs.Prelude.{Option, Some, None, Result, IsTrue, false, drop}
use Rattle.std.specs.Option.{option_or}
use Rattle.node_api.specs.declared.program.Refused.{Refused}
use Rattle.node_api.proofs.Reading.{fold_rest, fold_rest-read, fold_rest-end}
use Rattle.layers.specs.Layering.{and_heard, rule_broken}
use Rattle.layers.proofs.Heard.{heard-broken, heard-right, refused-stays}
use Rattle.layers.proofs.hearing.first_port.Goals as goal

pub returns-in-Some : goal.returns-in-Some
returns-in-Some c =
    record {
      heard =
          let last = c.args.last in
          let pulse = c.args.pulse in
          let rule = c.in-Some.rule in
          let after = c.next-hops.new.self in
          let port : ℕ = after.cursor - 1 in
          let same : c.sender.result ≡ port = omega (arith, c.sender.ensures.port) in
          let broken : rule_broken last pulse c.next-hops.result.0 ≡ Some rule = sym c.rule_broken.ensures ∙ c.in-Some.is in
          let refusal : ℕ → Result (Option ℕ) Refused = λ k. Err (record { rule = rule; port = Some k }) in
          sym (sym c.loop-reader.invariant.rest
          ∙ (fold_rest-read (and_heard last pulse) c.loop-reader.reader c.next-hops.result after (Ok c.loop-reader.first) c.next-hops.ensures.reads
          ∙ (ap (λ (r : Result (Option ℕ) Refused). fold_rest (and_heard last pulse) r after)
          (heard-broken last pulse port rule c.loop-reader.first c.next-hops.result broken)
          ∙ (refused-stays last pulse after.cursor (record { rule = rule; port = Some port }) (drop after.cursor after.slots)
          ∙ ap refusal (sym same)))));
    }

pub loop-reader-preserved : goal.loop-reader-preserved
loop-reader-preserved c =
    let last = c.args.last in
    let pulse = c.args.pulse in
    let after = c.next-hops.new.self in
    let port : ℕ = after.cursor - 1 in
    let same : c.sender.result ≡ port = omega (arith, c.sender.ensures.port) in
    let none : rule_broken last pulse c.next-hops.result.0 ≡ None = sym c.rule_broken.ensures ∙ c.in-None.is in
    record {
      same = c.next-hops.ensures.reads.same ∙ c.loop-reader.invariant.same;
      rest = ap (λ (first : Option ℕ). fold_rest (and_heard last pulse) (Ok first) after)
          (c.or-first.ensures ∙ ap (λ (k : ℕ). option_or c.loop-reader.first (Some k)) same)
          ∙ (ap (λ (r : Result (Option ℕ) Refused). fold_rest (and_heard last pulse) r after)
          (sym (heard-right last pulse port c.loop-reader.first c.next-hops.result none))
          ∙ (sym (fold_rest-read (and_heard last pulse) c.loop-reader.reader c.next-hops.result after (Ok c.loop-reader.first) c.next-hops.ensures.reads)
          ∙ c.loop-reader.invariant.rest));
    }

pub returns : goal.returns
returns c =
    record {
      heard =
          sym (fold_rest-end (and_heard c.args.last c.args.pulse) c.loop-reader.reader (Ok c.loop-reader.first)
          (λ h. let e : IsTrue false = c.loop-reader-test.ensures.more.1 h in (cc)))
          ∙ c.loop-reader.invariant.rest;
    }
