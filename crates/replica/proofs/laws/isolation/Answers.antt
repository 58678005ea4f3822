use Rattle.replica.proofs.Isolated.{isolates, own_join, unopened, confines}
use Rattle.replica.proofs.laws.isolation.Goals as goal

pub returns-clause-isolates : goal.returns-clause-isolates
returns-clause-isolates c = isolates

pub returns-clause-joins : goal.returns-clause-joins
returns-clause-joins c = own_join

pub returns-clause-unopened : goal.returns-clause-unopened
returns-clause-unopened c = unopened

pub returns-clause-confines : goal.returns-clause-confines
returns-clause-confines c = confines
