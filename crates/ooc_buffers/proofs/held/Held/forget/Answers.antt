use Rattle.ooc_buffers.proofs.held.Held.forget.Goals as goal

pub returns : goal.returns
returns g c = λ t right computes ends rights. c.clear.ensures t right computes (record { opens = λ x y fine other same near passes. ends x y fine other same passes }) rights
