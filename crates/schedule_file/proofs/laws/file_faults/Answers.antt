use Rattle.schedule_file.proofs.FaultLaws.{own_fault}
use Rattle.schedule_file.proofs.FileFaults.{magic_both, version_both, header_both, event_both, trailing_both, truncated_both, too_long_both}
use Rattle.schedule_file.proofs.laws.file_faults.Goals as goal

pub returns-clause-magic : goal.returns-clause-magic
returns-clause-magic c = magic_both

pub returns-clause-version : goal.returns-clause-version
returns-clause-version c = version_both

pub returns-clause-header : goal.returns-clause-header
returns-clause-header c = header_both

pub returns-clause-event : goal.returns-clause-event
returns-clause-event c = event_both

pub returns-clause-trailing : goal.returns-clause-trailing
returns-clause-trailing c = trailing_both

pub returns-clause-truncated : goal.returns-clause-truncated
returns-clause-truncated c = truncated_both

pub returns-clause-too_long : goal.returns-clause-too_long
returns-clause-too_long c = too_long_both

pub returns-clause-own : goal.returns-clause-own
returns-clause-own c = own_fault
