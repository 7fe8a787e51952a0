-- The faults of a run of workers on the network of a text.
use Rattle.std.proofs.Common.{◌≡◌, ℕ, Bool, List, subst, true}
use Rattle.dimacs_col.specs.Lines.{lines_of}
use Rattle.interference.specs.Net.{IsNetwork, Net}
use Rattle.node_api.specs.Program.{Program}
use Rattle.run_options.specs.declared.Options.{Options}
use Rattle.run_options.specs.declared.fault.RunFault.{RunFault}
use Rattle.run_options.specs.declared.fault.RunFault.TheVariants as run
use Rattle.plan_answers.specs.Answers.{ReadsAs}
use Rattle.plan_runs.specs.Workers.{HasStopped, IsFaultOfRun, IsFaultOfTranscript}
use Rattle.play_inputs.specs.RunFaults.{fault_of_run}
use Rattle.play_inputs.specs.Settings.{OfSet}
use Rattle.play_inputs.specs.declared.setting.Setting.{Setting}
use Rattle.play_inputs.proofs.Settings.{lines-more}
use Rattle.play_runs.specs.Workers.{IsFaultOfWorkers}

-- a network was read, and the fault of its run, or of the transcript, is that of the input
only-network : (setting : Setting) (input : List ℕ) (net : Net) → ReadsAs input (OfSet setting (λ read. IsNetwork read × (net ≡ read)))
    → ReadsAs input (OfSet setting IsNetwork)
only-network setting input net = lines-more setting (lines_of input) (λ read. IsNetwork read × (net ≡ read)) (λ read. IsNetwork read) (λ read both. both.0)

pub workers-fault : {S M E : Type 0} (program : Program S M E) (setting : Setting) (input : List ℕ) (net : Net) (o : Options) (t : Bool)
    (fault : RunFault) → ReadsAs input (OfSet setting (λ read. IsNetwork read × (net ≡ read))) → IsFaultOfRun program net o t fault
    → IsFaultOfWorkers program setting o t input (fault_of_run fault)
workers-fault program setting input net o t (run.Pool fault) read is = (only-network setting input net read, is)
workers-fault program setting input net o t run.Stopped read is =
    lines-more setting (lines_of input) (λ read. IsNetwork read × (net ≡ read))
    (λ read. IsNetwork read × HasStopped program read o t)
    (λ read both. (both.0, subst (λ n. HasStopped program n o t) both.1 is)) read
workers-fault program setting input net o t run.Memory read is = absurd is

pub recorders-fault : {S M E : Type 0} (program : Program S M E) (setting : Setting) (input : List ℕ) (net : Net) (o : Options)
    (fault : RunFault) → ReadsAs input (OfSet setting (λ read. IsNetwork read × (net ≡ read))) → IsFaultOfTranscript program net o fault
    → IsFaultOfWorkers program setting o true input (fault_of_run fault)
recorders-fault program setting input net o (run.Pool fault) read is =
    workers-fault program setting input net o true (run.Pool fault) read is
recorders-fault program setting input net o run.Stopped read is = workers-fault program setting input net o true run.Stopped read is
recorders-fault program setting input net o run.Memory read is = tt
