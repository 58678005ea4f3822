use Rattle.std.proofs.Common.{◌≡◌, None}
use Rattle.tcp_link.specs.Waits.{first_retry}
use Rattle.tcp_link.proofs.sockets.Sockets.retry_all.Given as goal

abbrev pub invariant-loop : goal.invariant-loop
invariant-loop g l =
    let r = l.initial.self.retries in
    first_retry r.clock r.waiting.items r.looks.items ≡ None → l.self.retries ≡ r
