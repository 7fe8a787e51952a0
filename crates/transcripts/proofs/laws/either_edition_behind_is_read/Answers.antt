use Rattle.std.proofs.Common.{◌+◌, length}
use Rattle.transcripts.specs.Behind.{network_lines, transcript_lines}
use Rattle.transcripts.proofs.Either.{named-one, named-two, stamped-have-lines}
use Rattle.transcripts.proofs.laws.either_edition_behind_is_read.Goals as goal

pub returns : goal.returns
returns g c = record {
  one = λ payload_of lines read. named-one payload_of (length (network_lines lines) + 1) (transcript_lines lines) read;
  two = λ payload_of lines read. named-two payload_of (length (network_lines lines) + 1) (transcript_lines lines) read;
  entry_lines = λ payload_of lines read e. stamped-have-lines payload_of lines read e;
}
