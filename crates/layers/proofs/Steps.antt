-- Steps of the layers: what a node sends at a pulse, and what it is after a pulse at which nothing came.
use Rattle.std.proofs.Common.{◌≡◌, ℕ, ◌<◌, refl, arith, true, false, replicate}
use Rattle.std.specs.Prelude.{Some, None}
use Rattle.std.proofs.lemmas.Bool.Decides.{nat_tests}
use Rattle.node_api.specs.Boxes.{nothing}
use Rattle.layers.specs.declared.layer.Layer.{Layer}
use Rattle.layers.specs.declared.layer.Layer.TheVariants.{Unreached, Root, Away}
use Rattle.layers.specs.Layered.{Layered}
use Rattle.layers.specs.Layering.{is_due, layer_after, sends}

-- before the last pulse it sends at the pulse of its distance alone
pub sends-due : (p : ℕ) (s : Layered) → p < s.last → is_due s.layer p ≡ true → sends p s ≡ replicate s.degree (Some (record { 0 = p }))
sends-due p s early due = grind (arith, nat_tests)

pub sends-undue : (p : ℕ) (s : Layered) → is_due s.layer p ≡ false → sends p s ≡ nothing s.degree
sends-undue p s undue = grind (arith, nat_tests)

pub unheard : (layer : Layer) (p : ℕ) → layer_after layer p None ≡ layer
unheard Unreached p = refl
unheard Root p = refl
unheard (Away hops port) p = refl
