use Rattle.client_port.proofs.Written.{request_is_read, request_was_written}
use Rattle.client_port.proofs.laws.requests_are_read.Goals as goal

pub returns-clause-read : goal.returns-clause-read
returns-clause-read c = request_is_read

pub returns-clause-written : goal.returns-clause-written
returns-clause-written c = request_was_written
