use Rattle.schedule_file.specs.OwnEventsLaws.{own_found, own_only}
use Rattle.schedule_file.proofs.laws.own_event_laws.Goals as goal

pub returns-clause-found : goal.returns-clause-found
returns-clause-found c = own_found

pub returns-clause-only : goal.returns-clause-only
returns-clause-only c = own_only
