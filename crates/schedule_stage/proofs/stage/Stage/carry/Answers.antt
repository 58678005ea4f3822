use Rattle.schedule_stage.proofs.stage.Stage.carry.Goals as goal

pub returns-in-Correct-x : goal.returns-in-Correct-x
returns-in-Correct-x g c = rw (c.in-Correct.is, c.in-Correct-x.is) (λ p what steps stands from to apart. c.pass_on.ensures p what steps stands from to apart)

pub returns-in-Face-x : goal.returns-in-Face-x
returns-in-Face-x g c = rw (c.in-Correct.is, c.in-Face-x.is) (λ p what steps stands from to apart. c.show.ensures p what steps stands from to apart)

pub returns-in-Face : goal.returns-in-Face
returns-in-Face g c = rw c.in-Face.is (λ p what steps stands from to apart. c.bring.ensures p what steps stands from to apart)
