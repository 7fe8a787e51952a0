-- A pulse that changes nothing leaves all as it is (`Still`); after a round all is at the next pulse.
use Rattle.std.proofs.Common.{◌<◌, ℕ, suc, arith, subst}
use Rattle.std.specs.Prelude.{slice_index_or}
use Rattle.interference.specs.Net.{count_of}
use Rattle.sync_rounds.specs.Rounds.{AreAt}
use Rattle.sync_rounds.proofs.Bounds.{next_is}
use Rattle.sync_rounds.proofs.Still.{still-inboxes, still-loud, still-nodes, still-rests}
use Rattle.sync_rounds.proofs.rounds.Rounds.step.Goals as goal

pub invariant_of-self : goal.invariant_of-self
invariant_of-self g c =
    let m = g.P.NodeProgram in
    let laws = m.laws.keeps_ports in
    let net = c.self.inside.net.now in
    let p = c.self.inside.pulse in
    let kept = c.self.inside.kept in
    let untils = kept.untils.items in
    let inboxes = kept.inboxes.items in
    let keeps = c.self.invariant in
    let here = keeps.at in
    let ok = keeps.network in
    let empty = keeps.quiet c.if-not-self.true in
    let early : (k d : ℕ) → k < count_of c.self.inside.net.now → suc c.self.inside.pulse < slice_index_or c.self.inside.kept.untils.items k d =
    λ k d below. omega (arith, c.self.invariant.least k d below, c.if-done-self.true) in
    let still : AreAt m.program net (suc p) kept = record {
      nodes = still-nodes m.program laws net ok p untils inboxes here.rests here.next empty early kept.nodes.items here.nodes;
      loud = still-loud m.program laws net ok p untils inboxes here.rests here.next empty early kept.loud.items here.loud;
      outs = here.outs;
      rests = still-rests m.program laws net ok p untils inboxes here.rests here.next empty early;
      next = still-inboxes m.program laws net ok p untils inboxes here.rests here.next empty early;
      later = here.later;
    } in
    record {
      network = ok;
      at = subst (λ (q : ℕ). AreAt m.program net q kept) (next_is p) still;
      quiet = keeps.quiet;
      least = keeps.least;
    }

pub invariant_of-self-2 : goal.invariant_of-self-2
invariant_of-self-2 g c =
    let m = g.P.NodeProgram in
    let r = c.round-self-inside in
    let net = c.self.inside.net.now in
    record {
      network = c.self.invariant.network;
      at = subst (λ (q : ℕ). AreAt m.program net q r.new.kept) (next_is c.self.inside.pulse) r.ensures.at;
      quiet = r.ensures.quiet;
      least = r.ensures.least;
    }
