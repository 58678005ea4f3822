use Rattle.std.proofs.Common.{sym, ◌∙◌}
use Rattle.ritas_core.specs.Stands.{Meaning, meaning}
use Rattle.ritas_core.proofs.WholeCalls.{turn_does, turn_stays}
use Rattle.ritas_core.proofs.kernel.Core.step_front.Goals as goal

pub returns-then-is_mem-clause-does : goal.returns-then-is_mem-clause-does
returns-then-is_mem-clause-does g c =
    let b = g.E.Broadcast in
    let m : Meaning g.row.S.Denot g.row.E.Denot g.row.C.Denot g.row.T.Denot =
    meaning g.S.Service.stands g.S.Service.rules g.S.Service.shown b.stands b.rules b.shown g.C.Coin.bits g.T.Tagger.me g.T.Tagger.tags in
    turn_stays m c.args.self.now c.give_front-answer.new.self c.args.out.now.items c.give_front-answer.new.out.items c.give_front-answer.result
    c.give_front-answer.ensures.does (sym c.is_mem.ensures ∙ c.if-is_mem.true)

pub returns-clause-does : goal.returns-clause-does
returns-clause-does g c =
    let b = g.E.Broadcast in
    let m : Meaning g.row.S.Denot g.row.E.Denot g.row.C.Denot g.row.T.Denot =
    meaning g.S.Service.stands g.S.Service.rules g.S.Service.shown b.stands b.rules b.shown g.C.Coin.bits g.T.Tagger.me g.T.Tagger.tags in
    turn_does m c.args.self.now c.give_front-answer.new.self c.args.out.now.items c.give_front-answer.new.out.items c.give_front-answer.result
    c.give_front-answer.ensures.does c.pop_front.new.self (sym c.is_mem.ensures ∙ c.if-is_mem.false) c.pop_front.ensures.rest
