use Rattle.ooc_buffers.proofs.FirstOnes.{noted, noted_before}
use Rattle.ooc_buffers.proofs.firsts.note.Goals as goal

pub returns-then-has_up_to : goal.returns-then-has_up_to
returns-then-has_up_to c = noted_before c.args.firsts.now c.args.group c.args.like (c.has_up_to.ensures.yes c.if-has_up_to.true)

pub returns : goal.returns
returns c = noted c.args.firsts.now c.insert.new.self c.args.group c.args.like c.in_ok-insert.ensures.updates (c.has_up_to.ensures.no c.if-has_up_to.false)
