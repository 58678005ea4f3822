use Rattle.std.proofs.Common.{arith}
use Rattle.record_file.proofs.Walking.{all_read, has_front}
use Rattle.record_file.proofs.reading.record_in.Goals as goal

pub returns-in-Some-clause-front : goal.returns-in-Some-clause-front
returns-in-Some-clause-front c = λ head rs same long here. has_front c.args.form.now head c.args.file.now c.args.at rs (λ i. omega (arith, c.type_inv.file i)) same long here

pub returns-in-None-clause-last : goal.returns-in-None-clause-last
returns-in-None-clause-last c = λ rs here. all_read c.args.form.now c.args.file.now c.args.at rs here c.in-None.ensures

pub returns-in-None-clause-front : goal.returns-in-None-clause-front
returns-in-None-clause-front c = λ head rs same long here. has_front c.args.form.now head c.args.file.now c.args.at rs (λ i. omega (arith, c.type_inv.file i)) same long here
