use Rattle.std.proofs.Common.{◌≡◌, ◌∙◌, ◌-◌, ◌+◌, Bool, arith, false, refl, subst, sym, true}
use Rattle.std.proofs.lemmas.Bool.{le-ltb}
use Rattle.interference.specs.Net.{IsBarred}
use Rattle.interference.proofs.Neighbours.{greatest_bars-within, greatest_degree-within}
use Rattle.channel_plan.specs.Checked.{is_channel_barred}
use Rattle.channel_plan.proofs.Barred.{barred-channel, unbarred-channel}
use Rattle.channel_plan.proofs.checking.is_channel_barred.Goals as goal

pub overflow_cast-channel : goal.overflow_cast-channel
overflow_cast-channel c = omega (
  arith,
  c.requires.within,
  greatest_degree-within c.args.net.now c.requires.network,
  greatest_bars-within c.args.net.now c.requires.network,
)

-- the colour of a channel that isn't 0, and the test of it
pub returns-then-channel-gt0 : goal.returns-then-channel-gt0
returns-then-channel-gt0 c = by-result c.is_barred.result refl
  where
    by-result : (b : Bool) → c.is_barred.result ≡ b → c.is_barred.result ≡ is_channel_barred c.args.net.now c.args.v c.args.channel
    by-result true e =
        let same : c.args.channel - 1 + 1 ≡ c.args.channel = omega (arith, c.if-channel-gt0.true) in
        e ∙ sym (subst (λ k. is_channel_barred c.args.net.now c.args.v k ≡ true) same
        (barred-channel c.args.net.now c.args.v (c.args.channel - 1) (c.is_barred.ensures.0 e)))
    by-result false e = e ∙ sym (unbarred-channel c.args.net.now c.args.v c.args.channel (λ colour is barred.
        let same : colour ≡ c.args.channel - 1 = omega (arith, is) in
        let yes : c.is_barred.result ≡ true = c.is_barred.ensures.1 (subst (λ k. IsBarred c.args.net.now c.args.v k) same barred) in
        let wrong : true ≡ false = sym yes ∙ e in absurd cc))

pub returns-else-channel-gt0 : goal.returns-else-channel-gt0
returns-else-channel-gt0 c =
    le-ltb 0 c.args.channel c.if-channel-gt0.false
    ∙ sym (unbarred-channel c.args.net.now c.args.v c.args.channel (λ colour is barred. omega (arith, is, c.if-channel-gt0.false)))
