use Rattle.std.proofs.Common.{◌≡◌, ◌∙◌, ap, arith, inl, inr, is_some, sym, true, false}
use Rattle.interference.specs.Net.{IsVertex}
use Rattle.interference.proofs.Neighbours.{greatest_bars-within, greatest_degree-within}
use Rattle.channel_plan.specs.Checked.{channel_of, channels_in}
use Rattle.channel_plan.proofs.Tables.{row-barred, row-good, row-high, row-stranger, row-twice, table-put}
use Rattle.channel_plan.proofs.checking.put_row.Goals as goal
use Rattle.channel_plan.proofs.checking.put_row.Goals.{then-v-eq0-via-then-v-eq0, then-v-eq0-via-else-v-eq0+then-v-nodes}

pub returns-then-v-eq0-clause-fault : goal.returns-then-v-eq0-clause-fault
returns-then-v-eq0-clause-fault c = λ before table.
    elim c.then-v-eq0.branch [
      | then-v-eq0-via-then-v-eq0 w ↦ row-stranger c.args.net.now before c.args.row (inl w.if-v-eq0.true)
      | then-v-eq0-via-else-v-eq0+then-v-nodes w ↦ row-stranger c.args.net.now before c.args.row (inr (omega (arith, w.nodes.ensures, w.if-v-nodes.true)))
    ]

pub returns-then-is_some-clause-fault : goal.returns-then-is_some-clause-fault
returns-then-is_some-clause-fault c = λ before table.
    let v : IsVertex c.args.net.now c.args.row.0 = (omega (arith, c.if-v-eq0.false), omega (arith, c.nodes.ensures, c.if-v-nodes.false)) in
    let known : is_some (channel_of before c.args.row.0) ≡ true = ap is_some (sym (table.each c.args.row.0 v)) ∙ sym c.is_some.ensures ∙ c.if-is_some.true in
    row-twice c.args.net.now before c.args.row v known

pub overflow_add-greatest_degree : goal.overflow_add-greatest_degree
overflow_add-greatest_degree c = omega (
  arith,
  c.greatest_degree.ensures.value,
  c.greatest_bars.ensures,
  greatest_degree-within c.args.net.now c.nodes.ensures.network,
  greatest_bars-within c.args.net.now c.nodes.ensures.network,
)

pub overflow_add-greatest_degree-2 : goal.overflow_add-greatest_degree-2
overflow_add-greatest_degree-2 c = omega (
  arith,
  c.greatest_degree.ensures.value,
  c.greatest_bars.ensures,
  greatest_degree-within c.args.net.now c.nodes.ensures.network,
  greatest_bars-within c.args.net.now c.nodes.ensures.network,
)

pub returns-then-channel-greatest_degree-clause-fault :
    goal.returns-then-channel-greatest_degree-clause-fault
returns-then-channel-greatest_degree-clause-fault c = λ before table.
    let v : IsVertex c.args.net.now c.args.row.0 = (omega (arith, c.if-v-eq0.false), omega (arith, c.nodes.ensures, c.if-v-nodes.false)) in
    let free : is_some (channel_of before c.args.row.0) ≡ false = ap is_some (sym (table.each c.args.row.0 v)) ∙ sym c.is_some.ensures ∙ c.if-is_some.false in
    row-high c.args.net.now before c.args.row v free
    (omega (arith, c.greatest_degree.ensures.value, c.greatest_bars.ensures, c.if-channel-greatest_degree.true))

pub is_channel_barred-requires-clause-within : goal.is_channel_barred-requires-clause-within
is_channel_barred-requires-clause-within c = omega (arith, c.greatest_degree.ensures.value, c.greatest_bars.ensures, c.if-channel-greatest_degree.false)

pub returns-then-is_channel_barred-clause-fault : goal.returns-then-is_channel_barred-clause-fault
returns-then-is_channel_barred-clause-fault c = λ before table.
    let v : IsVertex c.args.net.now c.args.row.0 = (omega (arith, c.if-v-eq0.false), omega (arith, c.nodes.ensures, c.if-v-nodes.false)) in
    let free : is_some (channel_of before c.args.row.0) ≡ false = ap is_some (sym (table.each c.args.row.0 v)) ∙ sym c.is_some.ensures ∙ c.if-is_some.false in
    row-barred c.args.net.now before c.args.row v free
    (omega (arith, c.greatest_degree.ensures.value, c.greatest_bars.ensures, c.if-channel-greatest_degree.false))
    (sym c.is_channel_barred.ensures ∙ c.if-is_channel_barred.true)

pub returns-clause-ok : goal.returns-clause-ok
returns-clause-ok c = λ before table.
    let v : IsVertex c.args.net.now c.args.row.0 = (omega (arith, c.if-v-eq0.false), omega (arith, c.nodes.ensures, c.if-v-nodes.false)) in
    let none : is_some (channels_in c.args.table.now c.args.row.0) ≡ false = sym c.is_some.ensures ∙ c.if-is_some.false in
    let free : is_some (channel_of before c.args.row.0) ≡ false = ap is_some (sym (table.each c.args.row.0 v)) ∙ none in (
      row-good c.args.net.now before c.args.row v free
          (omega (arith, c.greatest_degree.ensures.value, c.greatest_bars.ensures, c.if-channel-greatest_degree.false))
          (sym c.is_channel_barred.ensures ∙ c.if-is_channel_barred.false),
      table-put c.args.net.now before c.args.row.0 c.args.row.1 c.args.table.now table v none,
    )
