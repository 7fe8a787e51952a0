-- A node to which nothing comes keeps its layer, and its pulse is over.
use Rattle.std.proofs.Common.{◌≡◌, ℕ, List, Ok, ap, subst, ◌∙◌, false}
use Rattle.std.specs.Prelude.{Option, None, Result}
use Rattle.node_api.specs.declared.program.Refused.{Refused}
use Rattle.layers.specs.declared.hops.Hops.{Hops}
use Rattle.layers.specs.declared.layer.Layer.{Layer}
use Rattle.layers.specs.Layered.{Layered}
use Rattle.layers.specs.Layering.{is_due, next_from, with_sent}
use Rattle.layers.proofs.Heard.{heard-nothing}
use Rattle.layers.proofs.Steps.{sends-undue, unheard}
use Rattle.layers.proofs.node.LayersNodeProgram.rests_until.Goals as goal

pub returns-then-is_over : goal.returns-then-is_over
returns-then-is_over c = record {
  rests = λ q after before.
      let s : Layered = c.args.self.now in
      let of_layer : Layer → Layered = λ layer. record { layer = layer; degree = s.degree; last = s.last } in
      let over : is_due s.layer q ≡ false =
      subst (λ (t : Layered). is_due t.layer q ≡ false) c.self.view_is (c.is_over.ensures.over c.if-is_over.true q after) in
      ap (λ (r : Result (Option ℕ) Refused). next_from s q r) (heard-nothing s.last q 0 s.degree None)
      ∙ (ap (λ (layer : Layer). Ok (with_sent q (of_layer layer))) (unheard s.layer q)
      ∙ ap (λ (out : List (Option Hops)). Ok (s, out)) (sends-undue q s over));
}
