use Rattle.std.proofs.Common.{refl, arith}
use Rattle.schedule_drive.proofs.Refreshing.{sender_at, sender_there, pick_at}
use Rattle.schedule_drive.proofs.picker.Picker.pick.Goals as goal

pub returns-then-from-len : goal.returns-then-from-len
returns-then-from-len c = λ p waits counts passed x y is there linked.
    let below = sender_there p waits counts passed c.args.self.now is c.args.from x there in
    absurd (omega (arith, below, c.if-from-len.true, c.len.ensures))

pub returns : goal.returns
returns c = λ p waits counts passed x y is there linked.
    let s = c.index_mut.result.now in
    let here = sender_at c.args.self.now c.args.from s (omega (arith, c.if-from-len.false, c.len.ensures)) c.index_mut.ensures.value in
    pick_at p waits counts passed c.args.word c.args.self.now _ is c.args.from c.args.to x y s c.pick.new.self there here linked refl refl c.pick.ensures.player c.pick.result
    (λ linked_s. c.pick.ensures.sent p (counts s.player) passed y (is.senders c.args.from s here) linked_s)
