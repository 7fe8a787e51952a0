use Rattle.transcripts.proofs.Either.{either-one, either-two}
use Rattle.transcripts.proofs.laws.either_edition_is_read.Goals as goal

pub returns : goal.returns
returns g c = record {
  one = λ payload_of lines read. either-one payload_of 1 lines read;
  two = λ payload_of lines read. either-two payload_of 1 lines read;
}
