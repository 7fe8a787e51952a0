-- The plan: the set so far with the payloads that are still to be read is the set that is wanted (the invariant's
-- `rest`); a payload that is read moves from the one to the other, and at the end none is left.
use Rattle.std.proofs.Common.{◌≡◌, ◌-◌, ◌*◌, ◌<◌, ℕ, List, ap, sym, ◌∙◌, arith}
use Rattle.std.specs.Prelude.{Option, Some, IsTrue, false}
use Rattle.std.specs.Ordering.{nat_cmp}
use Rattle.std.specs.FinSet.{FinSet, insert}
use Rattle.node_api.specs.Boxes.{Mail, at_port}
use Rattle.node_api.proofs.Reading.{fold_rest, fold_rest-read, fold_rest-end}
use Rattle.colour_rules.specs.declared.payload.Payload.{Payload}
use Rattle.colour_rules.specs.declared.payload.Payload.TheVariants.{Chosen}
use Rattle.colour_rules.proofs.Reading.{taken_in, taken_in-other, with_chosen-fold, read-is, read-less}
use Rattle.colour_rules.proofs.merge.add_chosen.Goals as goal

pub loop-reader-init : goal.loop-reader-init
loop-reader-init g c = record {
  same = ap (λ (mail : Mail Payload). mail.slots) c.reader-reader.ensures.unread;
  rest = ap (fold_rest taken_in c.args.chosen.now) c.reader-reader.ensures.unread ∙ with_chosen-fold c.args.chosen.now 0 c.args.inbox.now.slots;
}

pub add-requires : goal.add-requires
add-requires g c =
    let l = c.loop-reader in
    let there : at_port c.args.inbox.now.slots (c.next.new.self.cursor - 1) ≡ Some (Chosen c.in-Chosen.colour) =
    ap (λ (slots : List (Option Payload)). at_port slots (c.next.new.self.cursor - 1)) (sym l.invariant.same) ∙
    (read-is l.reader c.next.result c.next.new.self c.next.ensures.reads ∙ ap Some c.in-Chosen.is) in
    let low : c.in-Chosen.colour < 64 * g.row.N = c.requires.colours (c.next.new.self.cursor - 1) c.in-Chosen.colour there in
    omega arith

pub loop-reader-smaller-in-Chosen : goal.loop-reader-smaller-in-Chosen
loop-reader-smaller-in-Chosen g c = read-less c.loop-reader.reader c.next.result c.next.new.self c.next.ensures.reads

pub loop-reader-preserved-in-Chosen : goal.loop-reader-preserved-in-Chosen
loop-reader-preserved-in-Chosen g c =
    let l = c.loop-reader in
    let port : ℕ = c.next.new.self.cursor - 1 in
    record {
      same = c.next.ensures.reads.same ∙ l.invariant.same;
      rest =
          ap (λ (set : FinSet nat_cmp). fold_rest taken_in set c.next.new.self)
          (c.add.ensures ∙ ap (λ (n : ℕ). insert l.chosen n) c.get.ensures.number ∙ ap (taken_in l.chosen port) (sym c.in-Chosen.is))
          ∙ (sym (fold_rest-read taken_in l.reader c.next.result c.next.new.self l.chosen c.next.ensures.reads) ∙ l.invariant.rest);
    }

pub loop-reader-smaller : goal.loop-reader-smaller
loop-reader-smaller g c = read-less c.loop-reader.reader c.next.result c.next.new.self c.next.ensures.reads

pub loop-reader-preserved : goal.loop-reader-preserved
loop-reader-preserved g c =
    record {
      same = c.next.ensures.reads.same ∙ c.loop-reader.invariant.same;
      rest =
          ap (λ (set : FinSet nat_cmp). fold_rest taken_in set c.next.new.self)
          (sym (taken_in-other c.loop-reader.chosen (c.next.new.self.cursor - 1) c.next.result c.in_default.not-Chosen))
          ∙ (sym (fold_rest-read taken_in c.loop-reader.reader c.next.result c.next.new.self c.loop-reader.chosen c.next.ensures.reads)
          ∙ c.loop-reader.invariant.rest);
    }

pub returns : goal.returns
returns g c =
    record {
      chosen = sym (fold_rest-end taken_in c.loop-reader.reader c.loop-reader.chosen (λ h. let e : IsTrue false =
          c.loop-reader-test.ensures.more.1 h in (cc))) ∙ c.loop-reader.invariant.rest;
    }
