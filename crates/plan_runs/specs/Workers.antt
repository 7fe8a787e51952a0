-- The faults of runs of worker threads.
use Rattle.std.specs.Prelude.{◌≡◌, ℕ, Bool, false, true, List, Result, Ok, Err, if◌then◌else◌}
use Rattle.interference.specs.Net.{Net, IsNetwork}
use Rattle.run_options.specs.Ranges.{AreInRange}
use Rattle.run_options.specs.declared.Options.{Options}
use Rattle.outcomes.specs.Outcome.{Outcome, IsOutcome, is_whole}
use Rattle.run_options.specs.declared.fault.PoolFault.{PoolFault}
use Rattle.run_options.specs.declared.fault.PoolFault.TheVariants as pool
use Rattle.run_options.specs.declared.fault.RunFault.{RunFault}
use Rattle.run_options.specs.declared.fault.RunFault.TheVariants as run
use Rattle.node_api.specs.Program.{Program}
use Rattle.plan_answers.specs.Answers.{IsFaultOfText, ReadsAs}
use Rattle.plan_answers.specs.declared.fault.PlanFault.{PlanFault}
use Rattle.plan_answers.specs.declared.fault.PlanFault.TheVariants as plan

-- The fault of a run of workers: if the options are out of range, that they are. When memory or a thread is refused
-- isn't promised. No stamp is ever too great.
abbrev pub IsFaultOfPool : Options → PoolFault → Type 0
IsFaultOfPool options pool.Memory = AreInRange options
IsFaultOfPool options pool.Spawn = AreInRange options
IsFaultOfPool options pool.StampFull = ⊥
IsFaultOfPool options pool.BadOptions = AreInRange options → ⊥

-- what a run of workers returns that run nodes with states S and payloads M: an outcome, or its fault
abbrev pub Ran : Type 0 → Type 0 → Type 0
Ran S M = Result (Outcome S M) PoolFault

-- What such a run of a program may return.
abbrev pub MayRun : {S M E : Type 0} → Program S M E → Net → Options → Bool → Ran S M → Type 0
MayRun program net options transcript (Ok outcome) =
    AreInRange options × IsOutcome program net options.capacity transcript outcome
MayRun program net options transcript (Err fault) = IsFaultOfPool options fault

-- What is returned of a run: its fault, or that it stopped if its outcome isn't whole, or else its outcome.
abbrev pub whole_after : {S M : Type 0} → Ran S M → Result (Outcome S M) RunFault
whole_after (Err fault) = Err (run.Pool fault)
whole_after (Ok outcome) = if is_whole outcome then Ok outcome else Err run.Stopped

-- Some outcome isn't whole. Which outcome the run left isn't said: that of no turns, where all nodes are at their
-- start, is such an outcome, too, unless the start is whole already.
pub record HasStopped {S M E : Type 0} (program : Program S M E) (net : Net) (options : Options) (transcript : Bool)
    : Type 0 where
  pub in_range : AreInRange options
  pub outcome : Outcome S M
  pub is_outcome : IsOutcome program net options.capacity transcript outcome
  pub not_whole : is_whole outcome ≡ false

-- The fault of a run: that of the pool, or `Stopped`, which needs an outcome that isn't whole. How many looks are
-- enough isn't promised.
abbrev pub IsFaultOfRun : {S M E : Type 0} → Program S M E → Net → Options → Bool → RunFault → Type 0
IsFaultOfRun program net options transcript (run.Pool fault) = IsFaultOfPool options fault
IsFaultOfRun program net options transcript run.Stopped = HasStopped program net options transcript
IsFaultOfRun program net options transcript run.Memory = ⊥

-- The fault of the transcript of a run: that of the run, or that memory ran out for the text.
abbrev pub IsFaultOfTranscript : {S M E : Type 0} → Program S M E → Net → Options → RunFault → Type 0
IsFaultOfTranscript program net options run.Memory = Unit {0}
IsFaultOfTranscript program net options fault = IsFaultOfRun program net options true fault

-- The fault of an input of `plan`, without a transcript, and of `transcript`, with one: that of the text, or else that
-- of the run of the program on its network.
abbrev pub IsFaultOfWorkers : {S M E : Type 0} → Program S M E → Options → Bool → List ℕ → PlanFault → Type 0
IsFaultOfWorkers program options transcript input (plan.Pool fault) =
    ReadsAs input IsNetwork × IsFaultOfPool options fault
IsFaultOfWorkers program options transcript input plan.Stopped =
    ReadsAs input (λ net. IsNetwork net × HasStopped program net options transcript)
IsFaultOfWorkers program options transcript input fault = IsFaultOfText input fault
