use Rattle.std.proofs.Common.{refl}
use Rattle.stamps.proofs.Tables.{counter_set, row_pulse, row_put, row_take}
use Rattle.stamps.proofs.table.StampTable.add.Goals as goal

pub returns-in-Pulse : goal.returns-in-Pulse
returns-in-Pulse g c =
    let row = c.args.row.now in
    let set = counter_set c.args.self.now.counters c.insert.new.self row.vertex row.stamp c.in_ok-insert.ensures.updates in
    record { added = λ rows is place. row_pulse rows c.args.self.now _ row is place refl refl set c.in-Pulse.field-0 c.in-Pulse.is refl refl }

pub returns-in_ok-add_put-in-Put : goal.returns-in_ok-add_put-in-Put
returns-in_ok-add_put-in-Put g c =
    let row = c.args.row.now in
    let set = counter_set c.args.self.now.counters c.insert.new.self row.vertex row.stamp c.in_ok-insert.ensures.updates in
    record {
      added = λ rows is place. row_put rows c.args.self.now _ row is place refl refl set c.in-Put.w c.in-Put.field-1 c.in-Put.is
          c.in_ok-add_put-in-Put.ensures.pushed refl;
    }

pub returns-in_ok-add_take-in-Take : goal.returns-in_ok-add_take-in-Take
returns-in_ok-add_take-in-Take g c =
    let row = c.args.row.now in
    let set = counter_set c.args.self.now.counters c.insert.new.self row.vertex row.stamp c.in_ok-insert.ensures.updates in
    record {
      added = λ rows is place. row_take rows c.args.self.now _ row is place refl refl set c.in-Take.w c.in-Take.field-1 c.in-Take.is refl
          c.in_ok-add_take-in-Take.ensures.counted;
    }
