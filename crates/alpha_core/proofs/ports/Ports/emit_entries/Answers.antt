use Rattle.std.proofs.Common.{length, refl, sym, ap, ◌∙◌, arith}
use Rattle.alpha_core.specs.Alpha.{enter_all}
use Rattle.alpha_core.proofs.Entered.{none-sent}
use Rattle.alpha_core.proofs.ports.Ports.emit_entries.Goals as goal

pub returns-else-not-is_quiet : goal.returns-else-not-is_quiet
returns-else-not-is_quiet g c =
    let old = c.args.self.now in
    let quiet = c.if-not-is_quiet.ensures.nothing.0 refl in
    record {
      entered = ap (λ l. record old { ports = l })
          (none-sent c.args.last old.pulse old.ports (length c.args.out.now) (λ e. omega (arith, e, c.if-pulse-last.false, c.pulse.ensures.pulse))
          c.requires.waits ∙ ap (λ out. enter_all c.args.last old.pulse out old.ports) (sym quiet));
    }
