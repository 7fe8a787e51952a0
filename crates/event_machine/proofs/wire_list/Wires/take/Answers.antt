use Rattle.std.proofs.Common.{◌<◌, drop, length, ap, ◌∙◌, arith, take, ◌++◌, ◌+◌}
use Rattle.event_rule.specs.State.{Link, take_one}
use Rattle.event_rule.proofs.Parts.{take-next}
use Rattle.event_machine.proofs.wire_list.Wires.take.Goals as goal

pub returns : goal.returns
returns g c =
    let a = c.self.inside in
    let some : 0 < length (drop a.taken a.sent.items) = omega (arith, c.requires.some, ap (λ (l : Link _). length l.held) c.self.view_is) in
    let next = take-next a.sent.items a.taken some in
    record {
      taken =
          ap (λ t. record { taken = t; held = drop (a.taken + 1) a.sent.items }) next.0
          ∙ ap (λ h. record { taken = take a.taken a.sent.items ++ take 1 (drop a.taken a.sent.items); held = h }) next.1
          ∙ ap (λ (l : Link _). take_one l) c.self.view_is;
    }
