use Rattle.client_port.proofs.Written.{query_is_read, query_was_written, query_is_no_request}
use Rattle.client_port.proofs.laws.queries_are_read.Goals as goal

pub returns-clause-read : goal.returns-clause-read
returns-clause-read c = query_is_read

pub returns-clause-written : goal.returns-clause-written
returns-clause-written c = query_was_written

pub returns-clause-no_request : goal.returns-clause-no_request
returns-clause-no_request c = query_is_no_request
