use Rattle.node_loop.proofs.again.serve_recovered.Goals as goal

pub returns : goal.returns
returns g c = record { serves = c.serve_after.ensures.serves }
