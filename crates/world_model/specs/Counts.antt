-- How many events of a schedule were answered in each way.
use Rattle.std.specs.Prelude.{ℕ, ◌+◌, List, [], ◌∷◌}
use Rattle.ritas_base.specs.declared.event.Event.{Event}
use Rattle.ritas_core.specs.declared.answer.Answer.TheVariants as answers
use Rattle.replica.specs.declared.refusal.Refusal.TheVariants as refusals
use Rattle.world_model.specs.declared.counts.Counts.{Counts}
use Rattle.world_model.specs.declared.seen.Seen.{Seen}
use Rattle.world_model.specs.declared.seen.Seen.TheVariants as seen_as
use Rattle.world_model.specs.World.{Setting, seen_of}

abbrev pub no_counts : Counts
no_counts = record { took = 0; held = 0; repeat = 0; idle = 0; missed = 0; open_faults = 0; body_faults = 0; core_faults = 0 }

abbrev pub counted_event : Seen → Counts → Counts
counted_event (seen_as.Answered answers.Took) c = record c { took = c.took + 1 }
counted_event (seen_as.Answered answers.Held) c = record c { held = c.held + 1 }
counted_event (seen_as.Answered answers.Repeat) c = record c { repeat = c.repeat + 1 }
counted_event (seen_as.Answered answers.Idle) c = record c { idle = c.idle + 1 }
counted_event seen_as.Missed c = record c { missed = c.missed + 1 }
counted_event (seen_as.Refused (refusals.Open fault)) c = record c { open_faults = c.open_faults + 1 }
counted_event (seen_as.Refused (refusals.Body fault)) c = record c { body_faults = c.body_faults + 1 }
counted_event (seen_as.Refused (refusals.Core fault)) c = record c { core_faults = c.core_faults + 1 }

-- how many events these are
abbrev pub total : Counts → ℕ
total c = c.took + c.held + c.repeat + c.idle + c.missed + c.open_faults + c.body_faults + c.core_faults

-- the counts of these events
unfoldable pub counts_of : Setting → List Event → Counts
counts_of w [] = no_counts
counts_of w (e ∷ es) = counted_event (seen_of w es e) (counts_of w es)
