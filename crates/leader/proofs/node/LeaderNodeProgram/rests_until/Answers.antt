-- A node to which nothing comes knows what it knew, and says nothing.
use Rattle.std.proofs.Common.{ℕ, List, Ok, ap, ◌∙◌, arith}
use Rattle.std.specs.Prelude.{Option, Result}
use Rattle.node_api.specs.declared.program.Refused.{Refused}
use Rattle.leader.specs.declared.candidate.Candidate.{Candidate}
use Rattle.leader.specs.Elector.{Elector}
use Rattle.leader.specs.Election.{next_from}
use Rattle.leader.proofs.Heard.{heard-nothing}
use Rattle.leader.proofs.Steps.{sends-none}
use Rattle.leader.proofs.node.LeaderNodeProgram.rests_until.Goals as goal

pub returns : goal.returns
returns c = record {
  rests = λ q after before.
      let s : Elector = c.args.self.now in
      ap (λ (r : Result ℕ Refused). next_from s q r) (heard-nothing s.last q s.best 0 s.degree)
      ∙ ap (λ (out : List (Option Candidate)). Ok (s, out)) (sends-none q s.best s (omega arith));
}
