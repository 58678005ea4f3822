use Rattle.frame_codec.proofs.BodyFaults.{kind_fault, slot_fault_comes, payload_fault_comes, rest_fault_comes}
use Rattle.frame_codec.proofs.body_laws.body_faults.Goals as goal

pub returns-clause-kind : goal.returns-clause-kind
returns-clause-kind c = kind_fault

pub returns-clause-slot : goal.returns-clause-slot
returns-clause-slot c = slot_fault_comes

pub returns-clause-payload : goal.returns-clause-payload
returns-clause-payload c = payload_fault_comes

pub returns-clause-rest : goal.returns-clause-rest
returns-clause-rest c = rest_fault_comes
