use Rattle.log_watch.specs.Watching.{gifts_of}
use Rattle.log_watch.proofs.Replies.{gifts_true}
use Rattle.log_watch.proofs.laws.watched_is_true.Goals as goal

pub returns : goal.returns
returns c = λ p is_correct log longest older enough within replies.
    c.log_is_true.ensures.prefix p is_correct log longest (gifts_of p older) enough within (gifts_true p is_correct log older replies)
