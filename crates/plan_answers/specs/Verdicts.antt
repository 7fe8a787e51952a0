-- The verdict on a plan that follows a network.
use Rattle.std.specs.Prelude.{◌≡◌, ◌⊎◌, ℕ, List, [], ◌∷◌, ◌++◌, Ok, codes}
use Rattle.number_rows.specs.Row.{row}
use Rattle.dimacs_col.specs.Lines.{Line, lines_of}
use Rattle.dimacs_col.specs.Reading.{IsFault}
use Rattle.interference.specs.Net.{Net, IsNetwork}
use Rattle.interference.specs.Making.{IsFaultOf}
use Rattle.channel_plan.specs.Checked.{IsFaultOfPlan, IsProper, greatest_channel}
use Rattle.channel_plan.specs.Reading.{IsFaultOfReading, Row, reading_of}
use Rattle.channel_plan.specs.Split.{network_lines, plan_lines}
use Rattle.channel_plan.specs.declared.plan.CheckFault.{CheckFault}
use Rattle.plan_answers.specs.Answers.{LinesReadAs}
use Rattle.plan_answers.specs.declared.fault.PlanFault.{PlanFault}
use Rattle.plan_answers.specs.declared.fault.PlanFault.TheVariants as plan

-- `proper G`
abbrev pub verdict_text : ℕ → List ℕ
verdict_text greatest = codes "proper " ++ row (greatest ∷ [])

-- the lines are a plan text with these rows, which are a proper plan of the network
abbrev pub IsProperPlan : Net → List Line → List Row → Type 0
IsProperPlan net lines rows = (reading_of lines ≡ Ok rows) × IsProper net rows

-- the answer is `proper G` for the plan of the network that stands before it, G being its greatest channel
abbrev pub IsCheckAnswer : List ℕ → List ℕ → Type 0
IsCheckAnswer input answer = LinesReadAs (network_lines (lines_of input)) (λ net. IsNetwork net
    × ((rows : List Row) × IsProperPlan net (plan_lines (lines_of input)) rows
    × (answer ≡ verdict_text (greatest_channel rows))))

-- the fault of a plan text for a network: of its reading, or of the rows that were read
abbrev pub IsFaultOfPlanText : Net → List Line → CheckFault → Type 0
IsFaultOfPlanText net lines fault = IsFaultOfReading lines fault
    ⊎ ((rows : List Row) × (reading_of lines ≡ Ok rows) × IsFaultOfPlan net rows fault)

-- the fault of an input of `check`: of the network text before the plan text, or else of the plan text
abbrev pub IsFaultOfCheck : List ℕ → PlanFault → Type 0
IsFaultOfCheck input (plan.Col fault) = IsFault (network_lines (lines_of input)) fault
IsFaultOfCheck input (plan.Net fault) = LinesReadAs (network_lines (lines_of input)) (λ net. IsFaultOf net fault)
IsFaultOfCheck input (plan.Check fault) = LinesReadAs (network_lines (lines_of input))
    (λ net. IsNetwork net × IsFaultOfPlanText net (plan_lines (lines_of input)) fault)
IsFaultOfCheck input plan.Memory = Unit {0}
IsFaultOfCheck input _ = ⊥
