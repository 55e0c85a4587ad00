use Rattle.tcel_target.proofs.Documents.{dispatched-says, later_fault, missing, no_dispatch, not_toml, other_costs, other_strange, range, strange, unit-says}
use Rattle.tcel_target.proofs.examples.target_examples.Goals as goal

pub returns-clause-unit : goal.returns-clause-unit
returns-clause-unit c = unit-says

pub returns-clause-dispatched : goal.returns-clause-dispatched
returns-clause-dispatched c = dispatched-says

pub returns-clause-not_toml : goal.returns-clause-not_toml
returns-clause-not_toml c = not_toml

pub returns-clause-strange : goal.returns-clause-strange
returns-clause-strange c = strange

pub returns-clause-missing : goal.returns-clause-missing
returns-clause-missing c = missing

pub returns-clause-range : goal.returns-clause-range
returns-clause-range c = range

pub returns-clause-no_dispatch : goal.returns-clause-no_dispatch
returns-clause-no_dispatch c = no_dispatch

pub returns-clause-other_costs : goal.returns-clause-other_costs
returns-clause-other_costs c = other_costs

pub returns-clause-other_strange : goal.returns-clause-other_strange
returns-clause-other_strange c = other_strange

pub returns-clause-later_fault : goal.returns-clause-later_fault
returns-clause-later_fault c = later_fault
