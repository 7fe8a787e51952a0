-- The line and the status that report each fault.
use Rattle.std.specs.Prelude.{ℕ, List, codes}
use Rattle.reports.specs.Lines.{at_line, at_vertex, at_vertices, line_with}
use Rattle.dimacs_col.specs.declared.fault.ColFault.{ColFault}
use Rattle.dimacs_col.specs.declared.fault.ColFault.TheVariants as col
use Rattle.interference.specs.declared.fault.NetFault.{NetFault}
use Rattle.interference.specs.declared.fault.NetFault.TheVariants as net
use Rattle.run_options.specs.declared.fault.PoolFault.{PoolFault}
use Rattle.run_options.specs.declared.fault.PoolFault.TheVariants as pool
use Rattle.channel_plan.specs.declared.plan.CheckFault.{CheckFault}
use Rattle.channel_plan.specs.declared.plan.CheckFault.TheVariants as check
use Rattle.plan_answers.specs.declared.fault.PlanFault.{PlanFault}
use Rattle.plan_answers.specs.declared.fault.PlanFault.TheVariants.{Check, Col, Net, Memory, Pool, Stopped}

-- the text of a fault of the reading, and the status of the program
abbrev pub col_text : ColFault → List ℕ × ℕ
col_text col.NoProblem = (codes "F1", 1)
col_text (col.SecondProblem n) = (at_line (codes "F2") n, 1)
col_text (col.EdgeBeforeProblem n) = (at_line (codes "F3") n, 1)
col_text (col.BadField n) = (at_line (codes "F4") n, 1)
col_text (col.VertexRange n) = (at_line (codes "F5") n, 1)
col_text (col.SelfLoop n) = (at_line (codes "F6") n, 1)
col_text (col.TooLarge n) = (at_line (codes "F7") n, 1)
col_text (col.UnknownLine n) = (at_line (codes "F8") n, 1)
col_text (col.EarlyLine n) = (at_line (codes "F10") n, 1)
col_text (col.NumberRange n) = (at_line (codes "F11") n, 1)
col_text (col.IdTwice n) = (at_line (codes "F12") n, 1)
col_text (col.ChannelRange n) = (at_line (codes "F13") n, 1)
col_text (col.TooManyBars n) = (at_line (codes "F14") n, 1)
col_text col.Memory = (codes "memory", 4)

-- the same of a fault of the network
abbrev pub net_text : NetFault → List ℕ × ℕ
net_text (net.Degree v) = (at_vertex (codes "N1") v, 1)
net_text (net.SameId v w) = (at_vertices (codes "N2") v w, 1)
net_text net.Memory = (codes "memory", 4)

-- the same of a fault of a run of workers
abbrev pub pool_text : PoolFault → List ℕ × ℕ
pool_text pool.Memory = (codes "memory", 4)
pool_text pool.Spawn = (codes "threads", 4)
pool_text pool.StampFull = (codes "stamps", 4)
pool_text pool.BadOptions = (codes "options", 2)

-- the same of a fault of a plan
abbrev pub check_text : CheckFault → List ℕ × ℕ
check_text (check.Missing v) = (at_vertex (codes "C1") v, 1)
check_text (check.Stranger v) = (at_vertex (codes "C2") v, 1)
check_text (check.Twice v) = (at_vertex (codes "C3") v, 1)
check_text (check.Clash v w) = (at_vertices (codes "C4") v w, 1)
check_text (check.TooHigh v) = (at_vertex (codes "C5") v, 1)
check_text (check.Barred v) = (at_vertex (codes "C8") v, 1)
check_text (check.Syntax n) = (at_line (codes "C6") n, 1)
check_text check.Memory = (codes "memory", 4)

-- the text of a fault, and the status of the program
abbrev pub fault_text : PlanFault → List ℕ × ℕ
fault_text (Col fault) = col_text fault
fault_text (Net fault) = net_text fault
fault_text (Pool fault) = pool_text fault
fault_text (Check fault) = check_text fault
fault_text Stopped = (codes "stopped", 3)
fault_text Memory = (codes "memory", 4)

-- the line with which a program of a name reports a fault
abbrev pub fault_line : List ℕ → PlanFault → List ℕ
fault_line name fault = line_with name (fault_text fault).0

abbrev pub fault_status : PlanFault → ℕ
fault_status fault = (fault_text fault).1
