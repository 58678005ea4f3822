use Rattle.chain_file.specs.Epochs.{requests_text}
use Rattle.chain_file.specs.Reading.{AreRequests, BeginsAs}
use Rattle.chain_file.proofs.reading.read_requests.Given as goal

abbrev pub invariant-loop : goal.invariant-loop
invariant-loop l = BeginsAs (AreRequests l.counter) requests_text l.bytes l.requests.items l.rest
