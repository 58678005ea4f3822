use Rattle.std.proofs.Common.{◌≡◌, length, min, take, drop, refl, ap, ◌∙◌}
use Rattle.tcp_link.specs.Limits.{messages_a_turn}
use Rattle.tcp_link.specs.Queues.{Queue, in_turn}
use Rattle.tcp_link.proofs.Turns.{due_in_turn, left_in_turn}
use Rattle.tcp_link.proofs.agenda.Agenda.begin_turn.Goals as goal

pub returns : goal.returns
returns c =
    let xs = c.self.inside.messages.items in
    let d = c.self.inside.messages_due in
    let before : Queue = record { news = c.self.inside.news.items; frames = c.self.inside.frames.items; due = take d xs; later = drop d xs } in
    let many : c.min-self-inside.result ≡ min (length xs) messages_a_turn = cc in
    let turned : record before { due = take c.min-self-inside.result xs; later = drop c.min-self-inside.result xs } ≡ in_turn before =
    rw (many, due_in_turn messages_a_turn d xs, left_in_turn messages_a_turn d xs) refl in
    turned ∙ ap in_turn c.self.view_is
