use Rattle.std.proofs.Common.{arith}
use Rattle.std.proofs.lemmas.List.{drop_all}
use Rattle.transcripts.proofs.line_end.LineEnd.clear.Goals as goal

pub returns : goal.returns
returns c = record { empty = drop_all 64 c.self.inside.bytes (grind arith) }
