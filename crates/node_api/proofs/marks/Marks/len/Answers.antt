use Rattle.std.proofs.Common.{length, ap, sym, ◌∙◌}
use Rattle.node_api.proofs.Words.{length-marks_in}
use Rattle.node_api.proofs.marks.Marks.len.Goals as goal

pub returns : goal.returns
returns c = record { places = sym (length-marks_in c.self.inside.places c.self.inside.words) ∙ ap length c.self.view_is }
