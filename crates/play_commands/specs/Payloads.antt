-- The texts of the payloads of each program beside the colouring.
use Rattle.std.specs.Prelude.{codes}
use Rattle.program_texts.specs.PayloadTexts.{PayloadTexts}
use Rattle.plan_runs.specs.Payloads.{colouring_payloads}
use Rattle.followed.specs.Said.{of_either, read_first}
use Rattle.followed.specs.declared.said.Said.{Said}
use Rattle.colour_rules.specs.declared.payload.Payload.{Payload}
use Rattle.independent_set.specs.Words.{joined_from}
use Rattle.independent_set.specs.declared.joined.Joined.{Joined}
use Rattle.layers.specs.Words.{hops_from}
use Rattle.layers.specs.declared.hops.Hops.{Hops}
use Rattle.leader.specs.Words.{candidate_from}
use Rattle.leader.specs.declared.candidate.Candidate.{Candidate}
use Rattle.matching.specs.Words.{number_in, proposal_from, word_in}
use Rattle.matching.specs.declared.proposal.Proposal.{Proposal}
use Rattle.recolouring.specs.Words.{anew_from}
use Rattle.recolouring.specs.declared.anew.Anew.{Anew}

abbrev pub leader_payloads : PayloadTexts Candidate
leader_payloads = record { word_of = λ x. codes "leader"; number_of = λ x. x.0; payload_of = candidate_from }

abbrev pub layers_payloads : PayloadTexts Hops
layers_payloads = record { word_of = λ x. codes "hops"; number_of = λ x. x.0; payload_of = hops_from }

-- those of a sequel: its own, beside those of the colouring
abbrev pub sequel_payloads : {M : Type 0} → PayloadTexts M → PayloadTexts (Said Payload M)
sequel_payloads sequel = record {
  word_of = of_either colouring_payloads.word_of sequel.word_of;
  number_of = of_either colouring_payloads.number_of sequel.number_of;
  payload_of = read_first colouring_payloads.payload_of sequel.payload_of;
}

abbrev pub matching_payloads : PayloadTexts (Said Payload Proposal)
matching_payloads = sequel_payloads (record { word_of = word_in; number_of = number_in; payload_of = proposal_from })

abbrev pub independent_set_payloads : PayloadTexts (Said Payload Joined)
independent_set_payloads =
    sequel_payloads (record { word_of = λ x. codes "joined"; number_of = λ x. x.0; payload_of = joined_from })

abbrev pub recolouring_payloads : PayloadTexts (Said Payload Anew)
recolouring_payloads =
    sequel_payloads (record { word_of = λ x. codes "anew"; number_of = λ x. x.0; payload_of = anew_from })
