use Rattle.ritas_core.proofs.Conditions.{started_where_said, started_is_said, heard_where_delivered, words_proper, calls_good}
use Rattle.ritas_core.proofs.CallsTaken.{calls_taken, calls_first}
use Rattle.ritas_core.proofs.Goodness.{good_messages}
use Rattle.ritas_core.proofs.Due.{new_is_due, due_stays_after}
use Rattle.ritas_core.proofs.laws.history_laws.Goals as goal

pub returns : goal.returns
returns c = record {
  starts = started_where_said;
  started = started_is_said;
  heard = heard_where_delivered;
  proper = words_proper;
  taken = calls_taken;
  first = calls_first;
  calls = calls_good;
  due = new_is_due;
  due_stays = due_stays_after;
  sent = good_messages;
}
