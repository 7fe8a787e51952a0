-- From what is known of a network text and of the plan text behind it to what `check` may answer.
use Rattle.std.proofs.Common.{◌≡◌, ◌∙◌, inl, inr, ℕ, Ok, List, subst, sym}
use Rattle.dimacs_col.specs.Lines.{Line, lines_of}
use Rattle.interference.specs.Net.{IsNetwork, Net}
use Rattle.channel_plan.specs.Checked.{IsFaultOfPlan, IsProper, greatest_channel}
use Rattle.channel_plan.specs.Reading.{IsFaultOfReading, Row, reading_of}
use Rattle.channel_plan.specs.Split.{AreNetworkLines, plan_lines, plan_word}
use Rattle.channel_plan.specs.declared.plan.CheckFault.{CheckFault}
use Rattle.channel_plan.specs.declared.plan.CheckFault.TheVariants as check
use Rattle.dimacs_col.proofs.Blank.{fault-of, graph-of}
use Rattle.plan_answers.specs.Answers.{IsFaultOfText, ReadsAs}
use Rattle.plan_answers.specs.Verdicts.{IsCheckAnswer, IsFaultOfCheck, verdict_text}
use Rattle.plan_answers.specs.declared.fault.PlanFault.{PlanFault}
use Rattle.plan_answers.specs.declared.fault.PlanFault.TheVariants as plan

-- the two texts that an input is cut into
pub record AreParts (input front behind : List ℕ) : Type 0 where
  pub network : AreNetworkLines (lines_of input) (lines_of front)
  pub plan : reading_of (lines_of behind) ≡ reading_of (plan_lines (lines_of input))

-- ---- the network text
pub fault-text : (input network : List ℕ) (fault : PlanFault) → AreNetworkLines (lines_of input) (lines_of network) → IsFaultOfText network fault →
    IsFaultOfCheck input fault
fault-text input network (plan.Col fault) are is = fault-of plan_word (lines_of input) (lines_of network) fault are is
fault-text input network (plan.Net fault) are (graph, reads, is) = (graph, graph-of plan_word (lines_of input) (lines_of network) graph are reads, is)
fault-text input network (plan.Check fault) are is = absurd is
fault-text input network (plan.Pool fault) are is = absurd is
fault-text input network plan.Stopped are is = absurd is
fault-text input network plan.Memory are is = tt

-- ---- the plan text
same-reading : (lines others : List Line) (fault : CheckFault) → reading_of lines ≡ reading_of others → IsFaultOfReading lines fault →
    IsFaultOfReading others fault
same-reading lines others check.Memory same is = tt
same-reading lines others (check.Syntax n) same is = sym same ∙ is
same-reading lines others (check.Missing v) same is = absurd is
same-reading lines others (check.Stranger v) same is = absurd is
same-reading lines others (check.Twice v) same is = absurd is
same-reading lines others (check.Clash v w) same is = absurd is
same-reading lines others (check.TooHigh v) same is = absurd is
same-reading lines others (check.Barred v) same is = absurd is

pub fault-reading : (input network behind : List ℕ) (net : Net) (fault : CheckFault) → AreParts input network behind →
    ReadsAs network (λ read. IsNetwork read × (net ≡ read)) → IsFaultOfReading (lines_of behind) fault → IsFaultOfCheck input (plan.Check fault)
fault-reading input network behind net fault are (graph, reads, (ok, same)) is = (
  graph,
  graph-of plan_word (lines_of input) (lines_of network) graph are.network reads,
  (ok, inl (same-reading (lines_of behind) (plan_lines (lines_of input)) fault are.plan is)),
)

pub fault-rows : (input network behind : List ℕ) (net : Net) (rows : List Row) (fault : CheckFault) → AreParts input network behind →
    ReadsAs network (λ read. IsNetwork read × (net ≡ read)) → reading_of (lines_of behind) ≡ Ok rows → IsFaultOfPlan net rows fault →
    IsFaultOfCheck input (plan.Check fault)
fault-rows input network behind net rows fault are (graph, reads, (ok, same)) read is = (
  graph,
  graph-of plan_word (lines_of input) (lines_of network) graph are.network reads,
  (ok, inr (rows, sym are.plan ∙ read, subst (λ known. IsFaultOfPlan known rows fault) same is)),
)

pub proper-rows : (input network behind text : List ℕ) (net : Net) (rows : List Row) → AreParts input network behind →
    ReadsAs network (λ read. IsNetwork read × (net ≡ read)) → reading_of (lines_of behind) ≡ Ok rows → IsProper net rows →
    text ≡ verdict_text (greatest_channel rows) → IsCheckAnswer input text
proper-rows input network behind text net rows are (graph, reads, (ok, same)) read is ends = (
  graph,
  graph-of plan_word (lines_of input) (lines_of network) graph are.network reads,
  (ok, (rows, (sym are.plan ∙ read, subst (λ known. IsProper known rows) same is), ends)),
)
