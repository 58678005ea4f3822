use Rattle.request_submit.specs.Submitting.{reply_calls}
use Rattle.request_submit.proofs.awaiting.count.Goals as goal

pub returns-in-Ok-clause-stands : goal.returns-in-Ok-clause-stands
returns-in-Ok-clause-stands c = λ w items stands.
    rw c.in-Reply.is (rw c.as_slice.ensures at (c.reply.ensures.stands w (reply_calls items) stands))

pub returns-in-Err-clause-stands : goal.returns-in-Err-clause-stands
returns-in-Err-clause-stands c = λ w items stands.
    rw c.in-Reply.is (rw c.as_slice.ensures at (c.reply.ensures.stands w (reply_calls items) stands))
