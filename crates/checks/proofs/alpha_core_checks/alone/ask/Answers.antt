use Rattle.std.proofs.Common.{◌∙◌}
use Rattle.checks.proofs.OnePort.{pulsing, taking}
use Rattle.checks.proofs.alpha_core_checks.alone.ask.Goals as goal

pub returns-in-Take : goal.returns-in-Take
returns-in-Take g c =
    record { one = taking _ _ 0 _ c.on_wire.result c.on_wire.ensures.reaction c.on_wire.ensures.refused ∙ c.requires.one }

pub returns-in-Pulse : goal.returns-in-Pulse
returns-in-Pulse g c =
    record { one = pulsing g.P.NodeProgram.program.next _ _ c.pulse.result c.pulse.ensures.pulse c.pulse.ensures.refused ∙ c.requires.one }
