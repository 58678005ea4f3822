use Rattle.std.proofs.Common.{◌≡◌, None}
use Rattle.tcp_link.specs.Queues.{next_of}
use Rattle.tcp_link.proofs.sockets.Sockets.take_item.Given as goal

abbrev pub invariant-loop : goal.invariant-loop
invariant-loop l = next_of l.initial.self.agenda ≡ None → l.self.agenda ≡ l.initial.self.agenda
