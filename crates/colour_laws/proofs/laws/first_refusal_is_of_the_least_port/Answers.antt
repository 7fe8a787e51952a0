use Rattle.colour_laws.proofs.FirstRefusal.{port-is, is-port, node-is, is-node, none-is, is-none}
use Rattle.colour_laws.proofs.laws.first_refusal_is_of_the_least_port.Goals as goal

pub returns-clause-port : goal.returns-clause-port
returns-clause-port c = λ node phase slots port rule same. (port-is node phase slots same port rule, is-port node phase slots same port rule)

pub returns-clause-own : goal.returns-clause-own
returns-clause-own c = λ node phase slots rule same. (node-is node phase slots same rule, is-node node phase slots same rule)

pub returns-clause-none : goal.returns-clause-none
returns-clause-none c = λ node phase slots same. (none-is node phase slots same, is-none node phase slots same)
