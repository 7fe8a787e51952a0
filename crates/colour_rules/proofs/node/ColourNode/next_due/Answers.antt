use Rattle.std.proofs.Common.{◌≡◌, ℕ, ◌+◌, ◌*◌, ◌<◌, ◌≤◌, subst, ap, sym, ◌∙◌, arith}
use Rattle.std.specs.Prelude.{slice_index}
use Rattle.node_api.specs.Program.{span}
use Rattle.colour_rules.specs.Node.{Node}
use Rattle.colour_rules.proofs.Idling.{no-turn-after}
use Rattle.colour_rules.proofs.node.ColourNode.next_due.Goals as goal
use Rattle.colour_rules.proofs.node.ColourNode.next_due.Goals.{then-three-le2+else-step-turn, else-three-le2}

pub returns-clause-idle : goal.returns-clause-idle
returns-clause-idle c s later below =
    let node : Node = c.args.self.now in
    let low : node.colour_before ≤ span node.sizes =
    subst (λ (n : Node). n.colour_before ≤ span n.sizes) c.self.view_is c.self.invariant.0.before_low in
    let three : c.own-three.result ≡ slice_index node.colours c.args.forest =
    c.own-three.ensures ∙ ap (λ (n : Node). slice_index n.colours c.args.forest) c.self.view_is in
    let wide : c.from-width.result ≡ span node.sizes = c.from-width.ensures ∙ c.span.ensures in
    no-turn-after node c.args.forest c.args.step s low
    (λ few. elim c.if-three-le2.branch [
      | then-three-le2+else-step-turn w ↦
          let before : w.from.result ≡ node.colour_before = w.from.ensures ∙ ap (λ (n : Node). n.colour_before) c.self.view_is in
          let over : c.own-three.result * (c.from-width.result + 1) + w.from.result ≤ c.args.step = omega (arith, w.if-step-turn.false) in
          rw (sym three, sym wide, sym before) over
      | else-three-le2 w ↦ absurd (omega (arith, few, three, w.if-three-le2.false))
    ]) later (subst (λ (n : ℕ). s < n) c.steps.ensures below)
