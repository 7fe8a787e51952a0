-- The plan of `plain`, behind its network, is proper, and has no fault.
use Rattle.std.proofs.Common.{◌≡◌, ◌++◌, ◌∷◌, [], inl, inr, ◌∙◌, ℕ, Some, None, Ok, Err, List, append-nil, arith, ap, codes, map, refl, subst, sym}
use Rattle.dimacs_col.specs.Lines.{Line, lines_of}
use Rattle.dimacs_col.specs.Reading.{Graph, IsGraph}
use Rattle.dimacs_col.proofs.Unique.{graph-or_fault, one-graph}
use Rattle.interference.specs.Making.{IsFaultOf}
use Rattle.interference.specs.Net.{IsNetwork, Net, vertices}
use Rattle.interference.specs.declared.fault.NetFault.{NetFault}
use Rattle.interference.specs.declared.fault.NetFault.TheVariants as net_fault
use Rattle.channel_plan.specs.Checked.{IsFaultOfPlan, IsProper, fault_of, greatest_channel}
use Rattle.channel_plan.specs.PlanText.{rows_from}
use Rattle.channel_plan.specs.Reading.{IsFaultOfReading, Row, reading_of, rows_of}
use Rattle.channel_plan.specs.Split.{network_lines, plan_lines, plan_word}
use Rattle.channel_plan.specs.declared.plan.CheckFault.{CheckFault}
use Rattle.channel_plan.specs.declared.plan.CheckFault.TheVariants as check
use Rattle.dimacs_col.proofs.Blank.{graph-front}
use Rattle.channel_plan.proofs.Proper.{fault-from}
use Rattle.dimacs_col.proofs.Splitting.{before-text, last-line}
use Rattle.channel_plan.proofs.Written.{plan-lines, written-read}
use Rattle.plan_answers.specs.Answers.{IsPlainAnswer, network_with}
use Rattle.plan_answers.specs.Faults.{fault_status}
use Rattle.plan_answers.specs.Texts.{colours_text}
use Rattle.plan_answers.specs.Verdicts.{IsCheckAnswer, IsFaultOfCheck, IsFaultOfPlanText, verdict_text}
use Rattle.plan_answers.specs.declared.fault.PlanFault.{PlanFault}
use Rattle.plan_answers.specs.declared.fault.PlanFault.TheVariants as plan
use Rattle.plan_answers.proofs.Following.{good-before, lines-of-both}
use Rattle.plan_answers.proofs.ProperPlans.{AreChannels, few-vertices, proper-rows, small-colours}

-- what is known of both texts
record IsAgreed (both : List ℕ) : Type 0 where
  graph : Graph
  rows : List Row
  reads : IsGraph (network_lines (lines_of both)) graph
  network : IsNetwork (network_with graph)
  read : reading_of (plan_lines (lines_of both)) ≡ Ok rows
  proper : IsProper (network_with graph) rows

agreed : (input answer : List ℕ) → IsPlainAnswer (input ++ 10 ∷ []) answer → IsAgreed ((input ++ 10 ∷ []) ++ answer)
agreed input answer (graph, reads, (ok, is, plan)) =
    let net = network_with graph in
    let lines = lines_of input in
    let colours = map plan.colour (vertices net) in
    let ended : lines_of (input ++ 10 ∷ []) ≡ lines ++ [] ∷ [] = ap lines_of (sym (append-nil (input ++ 10 ∷ []))) ∙ lines-of-both input [] ∙
    ap (λ ls. lines ++ ls) last-line in
    let front : IsGraph lines graph = graph-front lines graph (subst (λ ls. IsGraph ls graph) ended reads) in
    let plan_is : lines_of answer ≡ (codes "plan" ∷ []) ∷ lines_of (rows_from 1 colours) = ap lines_of plan.rows ∙ plan-lines colours in
    let both : lines_of ((input ++ 10 ∷ []) ++ answer) ≡ lines ++ (codes "plan" ∷ []) ∷ lines_of (rows_from 1 colours) = lines-of-both input answer ∙
    ap (λ ls. lines ++ ls) plan_is in
    let cut = before-text plan_word lines (codes "plan" ∷ []) (lines_of (rows_from 1 colours)) refl (good-before lines front.good) in
    let channels : AreChannels net plan.colour = record { differ = plan.differ; within = plan.within; unbarred = plan.unbarred } in
    record {
      graph = graph;
      rows = rows_of 1 colours;
      reads = subst (λ ls. IsGraph ls graph) (sym (ap network_lines both ∙ cut.0)) front;
      network = ok;
      read = ap reading_of (ap plan_lines both ∙ cut.1 ∙ sym (plan-lines colours)) ∙
          written-read colours (few-vertices net plan.colour ok) (small-colours net plan.colour ok channels);
      proper = proper-rows net plan.colour ok channels;
    }

pub agreed-proper : (input answer : List ℕ) → IsPlainAnswer (input ++ 10 ∷ []) answer → (greatest : ℕ) ×
    IsCheckAnswer ((input ++ 10 ∷ []) ++ answer) (verdict_text greatest)
agreed-proper input answer is = let a = agreed input answer is in
    (greatest_channel a.rows, (a.graph, a.reads, (a.network, (a.rows, (a.read, a.proper), refl))))

-- ---- no fault
network-fault : (net : Net) (fault : NetFault) → IsNetwork net → IsFaultOf net fault → fault_status (plan.Net fault) ≡ 4
network-fault net (net_fault.Degree v) ok is = absurd (let few = ok.degrees v is.0.0 in omega (arith, few, is.0.1))
network-fault net (net_fault.SameId v w) ok is = absurd (let same = ok.distinct v w is.1.0 is.1.1 is.1.3 in omega (arith, same, is.1.2))
network-fault net net_fault.Memory ok is = refl

reading-fault : (lines : List Line) (rows : List Row) (fault : CheckFault) → reading_of lines ≡ Ok rows → IsFaultOfReading lines fault →
    fault_status (plan.Check fault) ≡ 4
reading-fault lines rows check.Memory read is = refl
reading-fault lines rows (check.Syntax n) read is = let wrong : Ok rows ≡ Err n = sym read ∙ is in absurd cc
reading-fault lines rows (check.Missing v) read is = absurd is
reading-fault lines rows (check.Stranger v) read is = absurd is
reading-fault lines rows (check.Twice v) read is = absurd is
reading-fault lines rows (check.Clash v w) read is = absurd is
reading-fault lines rows (check.TooHigh v) read is = absurd is
reading-fault lines rows (check.Barred v) read is = absurd is

no-fault : (net : Net) (rows : List Row) (fault : CheckFault) → IsProper net rows → fault_of net rows ≡ Some fault → ⊥
no-fault net rows fault proper is = let wrong : None ≡ Some fault = sym (fault-from net rows proper) ∙ is in cc

plan-fault : (net : Net) (rows : List Row) (fault : CheckFault) → IsProper net rows → IsFaultOfPlan net rows fault → fault_status (plan.Check fault) ≡ 4
plan-fault net rows check.Memory proper is = refl
plan-fault net rows (check.Syntax n) proper is = absurd (no-fault net rows (check.Syntax n) proper is)
plan-fault net rows (check.Missing v) proper is = absurd (no-fault net rows (check.Missing v) proper is)
plan-fault net rows (check.Stranger v) proper is = absurd (no-fault net rows (check.Stranger v) proper is)
plan-fault net rows (check.Twice v) proper is = absurd (no-fault net rows (check.Twice v) proper is)
plan-fault net rows (check.Clash v w) proper is = absurd (no-fault net rows (check.Clash v w) proper is)
plan-fault net rows (check.TooHigh v) proper is = absurd (no-fault net rows (check.TooHigh v) proper is)
plan-fault net rows (check.Barred v) proper is = absurd (no-fault net rows (check.Barred v) proper is)

text-fault : (net : Net) (lines : List Line) (rows : List Row) (fault : CheckFault) → reading_of lines ≡ Ok rows → IsProper net rows →
    IsFaultOfPlanText net lines fault → fault_status (plan.Check fault) ≡ 4
text-fault net lines rows fault read proper (inl is) = reading-fault lines rows fault read is
text-fault net lines rows fault read proper (inr (others, also, is)) =
    let both : Ok rows ≡ Ok others = sym read ∙ also in
    let same : rows ≡ others = cc in
    plan-fault net rows fault proper (subst (λ rs. IsFaultOfPlan net rs fault) (sym same) is)

-- two readings of lines are one
same-net : (lines : List Line) (graph other : Graph) → IsGraph lines graph → IsGraph lines other → network_with other ≡ network_with graph
same-net lines graph other is also = ap network_with (sym (one-graph lines graph other is also))

-- and so a text has one plan
pub one-plan : (input one other : List ℕ) → IsPlainAnswer input one → IsPlainAnswer input other → other ≡ one
one-plan input one other (graph, reads, (ok, is, plan)) (more, also, (ok', is', plan')) =
    is' ∙ ap colours_text (same-net (lines_of input) graph more reads also) ∙ sym is

agreed-fault : (both : List ℕ) (fault : PlanFault) → IsAgreed both → IsFaultOfCheck both fault → fault_status fault ≡ 4
agreed-fault both (plan.Col fault) a is = ap (λ f. fault_status (plan.Col f)) (graph-or_fault (network_lines (lines_of both)) a.graph fault a.reads is)
agreed-fault both (plan.Net fault) a (other, reads, is) =
    network-fault (network_with a.graph) fault a.network
    (subst (λ net. IsFaultOf net fault) (same-net (network_lines (lines_of both)) a.graph other a.reads reads) is)
agreed-fault both (plan.Check fault) a (other, reads, (ok, is)) =
    text-fault (network_with a.graph) (plan_lines (lines_of both)) a.rows fault a.read a.proper
    (subst (λ net. IsFaultOfPlanText net (plan_lines (lines_of both)) fault) (same-net (network_lines (lines_of both)) a.graph other a.reads reads)
    is)
agreed-fault both (plan.Pool fault) a is = absurd is
agreed-fault both plan.Stopped a is = absurd is
agreed-fault both plan.Memory a is = refl

pub agreed-memory : (input answer : List ℕ) (fault : PlanFault) → IsPlainAnswer (input ++ 10 ∷ []) answer →
    IsFaultOfCheck ((input ++ 10 ∷ []) ++ answer) fault → fault_status fault ≡ 4
agreed-memory input answer fault is wrong = agreed-fault ((input ++ 10 ∷ []) ++ answer) fault (agreed input answer is) wrong
