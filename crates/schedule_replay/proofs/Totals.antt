-- As many events are counted as there were.
use Rattle.std.proofs.Common.{◌≡◌, ◌+◌, List, [], ◌∷◌, length, refl, arith}
use Rattle.ritas_base.specs.declared.event.Event.{Event}
use Rattle.ritas_core.specs.declared.answer.Answer.TheVariants as answers
use Rattle.replica.specs.declared.refusal.Refusal.TheVariants as refusals
use Rattle.world_model.specs.declared.counts.Counts.{Counts}
use Rattle.world_model.specs.declared.seen.Seen.{Seen}
use Rattle.world_model.specs.declared.seen.Seen.TheVariants as seen_as
use Rattle.world_model.specs.Counts.{counted_event, counts_of, total}
use Rattle.world_model.specs.World.{Setting, seen_of}

one_more : (seen : Seen) (c : Counts) → total (counted_event seen c) ≡ total c + 1
one_more (seen_as.Answered answers.Took) c = omega arith
one_more (seen_as.Answered answers.Held) c = omega arith
one_more (seen_as.Answered answers.Repeat) c = omega arith
one_more (seen_as.Answered answers.Idle) c = omega arith
one_more seen_as.Missed c = omega arith
one_more (seen_as.Refused (refusals.Open fault)) c = omega arith
one_more (seen_as.Refused (refusals.Body fault)) c = omega arith
one_more (seen_as.Refused (refusals.Core fault)) c = omega arith

pub all_counted : (w : Setting) (es : List Event) → length es ≡ total (counts_of w es)
unfolding counts_of
all_counted w [] = refl
all_counted w (e ∷ es) = omega (arith, all_counted w es, one_more (seen_of w es e) (counts_of w es))
