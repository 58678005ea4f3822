use Rattle.keyed_channel.specs.Frames.{Opening}
use Rattle.replica.proofs.Opened.{core_of, found_item, unread}
use Rattle.replica.proofs.replica.Replica.read.Goals as goal

pub returns-in-Ok : goal.returns-in-Ok
returns-in-Ok g c = λ s r k st stands bytes seq opens.
    let o : Opening = record { from = c.args.from; seq = seq; body = c.args.body.now } in
    let core = core_of s _ c.args.self.now r k st stands in
    found_item r k c.params-p.result.now c.mode-mode.result.now bytes o c.in-Ok.item
    (record { many = stands.many; numbers = c.params-p.ensures.rules r core.0 core.1; mode_is = c.mode-mode.ensures.rules r core.0 core.1; opens = opens })
    c.in-Ok.ensures.found c.in-Ok.ensures.exact

pub returns-in-Err : goal.returns-in-Err
returns-in-Err g c = λ s r k st stands bytes seq opens.
    let o : Opening = record { from = c.args.from; seq = seq; body = c.args.body.now } in
    let core = core_of s _ c.args.self.now r k st stands in
    unread r k c.params-p.result.now c.mode-mode.result.now bytes o c.in-Err.fault
    (record { many = stands.many; numbers = c.params-p.ensures.rules r core.0 core.1; mode_is = c.mode-mode.ensures.rules r core.0 core.1; opens = opens })
    c.in-Err.ensures.exact
