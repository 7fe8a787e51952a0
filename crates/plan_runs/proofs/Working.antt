-- The plan and the faults of a run of workers.
use Rattle.std.proofs.Common.{◌≡◌, ◌≢◌, Bool, true, ℕ, suc, ◌-◌, ◌<◌, ◌≤◌, List, map, length, get_or, refl, sym, ap, ◌∙◌, arith, ⊎_elim, inl, inr}
use Rattle.std.specs.Prelude.{◌⊎◌}
use Rattle.std.proofs.lemmas.Bool.{cases_lt}
use Rattle.std.proofs.lemmas.List.{get_or-map, length-map, same_lists}
use Rattle.std.proofs.lemmas.List.FromFn.{get_or-map-range_with_len, length-map-range_with_len, length-range_with_len}
use Rattle.std.proofs.lemmas.Simd.{map-map}
use Rattle.interference.specs.Net.{Net, IsBarred, IsNetwork, IsEdge, IsVertex, count_of, span_of, vertices}
use Rattle.run_options.specs.Ranges.{AreInRange}
use Rattle.run_options.specs.declared.Options.{Options}
use Rattle.run_options.specs.declared.TheConstants.{MAX_CAPACITY, MAX_WORKERS}
use Rattle.run_options.specs.declared.fault.PoolFault.{PoolFault}
use Rattle.run_options.specs.declared.fault.PoolFault.TheVariants as pool
use Rattle.run_options.specs.declared.fault.RunFault.{RunFault}
use Rattle.run_options.specs.declared.fault.RunFault.TheVariants as run
use Rattle.outcomes.specs.Outcome.{Outcome, node_in, start_of}
use Rattle.node_api.specs.Program.{Program}
use Rattle.alpha_core.specs.View.{Alpha}
use Rattle.channel_plan.specs.PlanText.{plan_of}
use Rattle.colour_rules.specs.declared.payload.Payload.{Payload}
use Rattle.colour_rules.specs.Node as colour
use Rattle.colour_rules.specs.Program.{colouring}
use Rattle.colour_laws.specs.Colours.{colours}
use Rattle.plan_answers.specs.Answers.{IsPlainAnswer, ReadsAs}
use Rattle.plan_answers.specs.RunFaults.{fault_of_run}
use Rattle.plan_answers.proofs.Plain.{plain}
use Rattle.plan_runs.specs.Colours.{merged_of}
use Rattle.plan_runs.specs.Workers.{HasStopped, IsFaultOfPool, IsFaultOfRun, IsFaultOfTranscript, IsFaultOfWorkers}
use Rattle.plan_runs.proofs.Recording.{read-as}

-- ---- the faults
ranges : (o : Options) → AreInRange o ⊎ (AreInRange o → ⊥)
ranges o =
    ⊎_elim (λ low. inr (λ is. omega (arith, low, is.some_worker)))
    (λ some_worker. ⊎_elim (λ high. inr (λ is. omega (arith, high, is.workers)))
    (λ workers. ⊎_elim (λ low. inr (λ is. omega (arith, low, is.some_capacity)))
    (λ some_capacity. ⊎_elim (λ high. inr (λ is. omega (arith, high, is.capacity)))
    (λ capacity. inl (record { some_worker = some_worker; workers = workers; some_capacity = some_capacity; capacity = capacity }))
    (cases_lt MAX_CAPACITY o.capacity))
    (cases_lt o.capacity 1))
    (cases_lt MAX_WORKERS o.workers))
    (cases_lt o.workers 1)

-- a fault that isn't that of the options comes only if they are in range
in_range : (o : Options) → ((AreInRange o → ⊥) → ⊥) → AreInRange o
in_range o not_out = ⊎_elim (λ is. is) (λ out. absurd (not_out out)) (ranges o)

pub pool-fault : (o : Options) (fault : PoolFault) → (fault ≡ pool.BadOptions → AreInRange o → ⊥) → ((AreInRange o → ⊥) → fault ≡ pool.BadOptions)
    → fault ≢ pool.StampFull → IsFaultOfPool o fault
pool-fault o pool.Memory only first fits = in_range o (λ out. let e : pool.Memory ≡ pool.BadOptions = first out in cc)
pool-fault o pool.Spawn only first fits = in_range o (λ out. let e : pool.Spawn ≡ pool.BadOptions = first out in cc)
pool-fault o pool.StampFull only first fits = fits refl
pool-fault o pool.BadOptions only first fits = only refl

-- whether a run has a transcript is nothing to the ranges
pub with_transcript : (o : Options) (transcript : Bool) → AreInRange o
    → AreInRange (record { workers = o.workers; capacity = o.capacity; turns = o.turns; transcript = transcript })
with_transcript o transcript is =
    record { some_worker = is.some_worker; workers = is.workers; some_capacity = is.some_capacity; capacity = is.capacity }

pub without_transcript : (o : Options) (transcript : Bool)
    → AreInRange (record { workers = o.workers; capacity = o.capacity; turns = o.turns; transcript = transcript }) → AreInRange o
without_transcript o transcript is =
    record { some_worker = is.some_worker; workers = is.workers; some_capacity = is.some_capacity; capacity = is.capacity }

-- a fault of the run is one of its transcript
pub transcript-fault : {S M E : Type 0} (program : Program S M E) (net : Net) (o : Options) (fault : RunFault)
    → IsFaultOfRun program net o true fault → IsFaultOfTranscript program net o fault
transcript-fault program net o (run.Pool fault) is = is
transcript-fault program net o run.Stopped is = is
transcript-fault program net o run.Memory is = tt

-- a network was read, and the fault of its run, or of the transcript, is that of the input
only-network : (input : List ℕ) (net : Net) → ReadsAs input (λ read. IsNetwork read × (net ≡ read)) → ReadsAs input IsNetwork
only-network input net (graph, reads, is) = (graph, reads, is.0)

pub workers-fault : {S M E : Type 0} (program : Program S M E) (input : List ℕ) (net : Net) (o : Options) (t : Bool) (fault : RunFault)
    → ReadsAs input (λ read. IsNetwork read × (net ≡ read)) → IsFaultOfRun program net o t fault
    → IsFaultOfWorkers program o t input (fault_of_run fault)
workers-fault program input net o t (run.Pool fault) read is = (only-network input net read, is)
workers-fault program input net o t run.Stopped read is = read-as input net (λ read. HasStopped program read o t) read is
workers-fault program input net o t run.Memory read is = absurd is

pub recorders-fault : {S M E : Type 0} (program : Program S M E) (input : List ℕ) (net : Net) (o : Options) (fault : RunFault)
    → ReadsAs input (λ read. IsNetwork read × (net ≡ read)) → IsFaultOfTranscript program net o fault
    → IsFaultOfWorkers program o true input (fault_of_run fault)
recorders-fault program input net o (run.Pool fault) read is = workers-fault program input net o true (run.Pool fault) read is
recorders-fault program input net o run.Stopped read is = workers-fault program input net o true run.Stopped read is
recorders-fault program input net o run.Memory read is = tt

-- ---- the plan
abbrev Left : Type 0
Left = Outcome colour.Node Payload

-- the colours of the nodes, in their order
colours-are : (net : Net) (outcome : Left) → map (λ g. g.vertex) outcome.nodes ≡ vertices net
    → ((v : ℕ) → IsVertex net v → (node_in colouring net outcome v).state.merged ≡ colours net v)
    → map merged_of outcome.nodes ≡ map (colours net) (vertices net)
colours-are net outcome once exact =
    let n = count_of net in
    let size : length outcome.nodes ≡ n = sym (length-map outcome.nodes (λ g. g.vertex)) ∙ ap (λ l. length l) once ∙ length-range_with_len 1 n in
    let read : Alpha colour.Node Payload → ℕ = λ alpha. alpha.node.state.merged in
    let alphas : List (Alpha colour.Node Payload) = map (λ g. g.alpha) outcome.nodes in
    let alphas_size : length alphas ≡ n = length-map outcome.nodes (λ g. g.alpha) ∙ size in
    sym (map-map read (λ g. g.alpha) outcome.nodes)
    ∙ same_lists (map read alphas) (map (colours net) (vertices net))
    (length-map alphas read ∙ alphas_size ∙ sym (length-map-range_with_len (colours net) 1 n))
    (λ k d lt.
    let below : k < n = omega (arith, lt, length-map alphas read, alphas_size) in
    let before : suc k - 1 ≡ k = omega arith in
    get_or-map read alphas k (start_of colouring net (suc k)) d (omega (arith, below, alphas_size))
    ∙ ap (λ j. read (get_or alphas j (start_of colouring net (suc k)))) (sym before)
    ∙ exact (suc k) (omega arith, omega (arith, below))
    ∙ sym (get_or-map-range_with_len (colours net) 1 n k (suc k) d below (omega arith)))

pub planned : (input text : List ℕ) (net : Net) (outcome : Left) → ReadsAs input (λ read. IsNetwork read × (net ≡ read))
    → text ≡ plan_of (map merged_of outcome.nodes) → map (λ g. g.vertex) outcome.nodes ≡ vertices net
    → ((v : ℕ) → IsVertex net v → (node_in colouring net outcome v).state.merged ≡ colours net v)
    → ((v w : ℕ) → IsEdge net v w → colours net v ≢ colours net w) → ((v : ℕ) → colours net v ≤ span_of net)
    → ((v : ℕ) → IsBarred net v (colours net v) → ⊥)
    → IsPlainAnswer input text
planned input text net outcome read told once exact proper within unbarred =
    plain input text net read (told ∙ ap plan_of (colours-are net outcome once exact)) proper within unbarred
