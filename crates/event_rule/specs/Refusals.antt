-- The refusal of a run, by that of one of its events.
use Rattle.std.specs.Prelude.{ℕ}
use Rattle.event_rule.specs.declared.refused.StepRefused.{StepRefused}
use Rattle.event_rule.specs.declared.refused.StepRefused.TheVariants as step_refused
use Rattle.event_rule.specs.declared.refused.RunRefused.{RunRefused}
use Rattle.event_rule.specs.declared.refused.RunRefused.TheVariants as run_refused

-- an event's refusal, with the event's index in the list
abbrev pub at_index : ℕ → StepRefused → RunRefused
at_index k step_refused.NotReady = run_refused.NotReady k
at_index k step_refused.NothingToPut = run_refused.NothingToPut k
at_index k step_refused.LinkEmpty = run_refused.LinkEmpty k
at_index k step_refused.NoSuch = run_refused.NoSuch k
at_index k step_refused.Memory = run_refused.Memory
