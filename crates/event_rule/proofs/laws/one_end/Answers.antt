use Rattle.alpha_laws.proofs.Runs.{runs}
use Rattle.event_rule.proofs.Maximal.{end_of, ends_agree}
use Rattle.event_rule.proofs.laws.one_end.Goals as goal

pub returns : goal.returns
returns g c = record {
  ends = λ program laws net ok events state is terminal. end_of ok (runs program laws net ok) events state is terminal;
  agree = λ program laws net ok events others state other is is' terminal terminal'.
      ends_agree ok (runs program laws net ok) events others state other is is' terminal terminal';
}
