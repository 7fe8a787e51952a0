use Rattle.serving.proofs.served.serve_words.Goals as goal

-- The status is that of the call.
pub returns-clause-served : goal.returns-clause-served
returns-clause-served g c = c.status_of.ensures.served

pub returns-clause-refused : goal.returns-clause-refused
returns-clause-refused g c = c.status_of.ensures.refused
