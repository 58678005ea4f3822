use Rattle.tcp_link.proofs.Pauses.{pause_ends, shown_is_counted, pause_is_shown}
use Rattle.tcp_link.proofs.laws.pause_ends.Goals as goal

pub returns-clause-unread : goal.returns-clause-unread
returns-clause-unread c = pause_ends

pub returns-clause-counted : goal.returns-clause-counted
returns-clause-counted c = shown_is_counted

pub returns-clause-shown : goal.returns-clause-shown
returns-clause-shown c = pause_is_shown
