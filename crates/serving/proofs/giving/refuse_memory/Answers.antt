use Rattle.serving.proofs.giving.refuse_memory.Goals as goal

pub returns-in-Forestplan-clause-reported : goal.returns-in-Forestplan-clause-reported
returns-in-Forestplan-clause-reported g c = rw c.in-Forestplan.is c.refuse.ensures.reported

pub returns-in-Forestplay-clause-reported : goal.returns-in-Forestplay-clause-reported
returns-in-Forestplay-clause-reported g c = rw c.in-Forestplay.is c.refuse-in-Forestplay.ensures.reported
