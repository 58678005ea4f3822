use Rattle.std.proofs.Common.{refl}
use Rattle.ritas_core.specs.Stands.{Meaning, meaning}
use Rattle.ritas_core.proofs.WholeCalls.{input_refused, input_does, input_stops}
use Rattle.ritas_core.proofs.kernel.Core.give.Goals as goal

pub returns-in-Some-clause-does : goal.returns-in-Some-clause-does
returns-in-Some-clause-does g c =
    let b = g.E.Broadcast in
    let m : Meaning g.row.S.Denot g.row.E.Denot g.row.C.Denot g.row.T.Denot =
    meaning g.S.Service.stands g.S.Service.rules g.S.Service.shown b.stands b.rules b.shown g.C.Coin.bits g.T.Tagger.me g.T.Tagger.tags in
    input_refused m c.args.self.now c.args.value.now _ c.in-Some.fault c.in-Some.ensures.exact

pub returns-in-Ok-clause-does : goal.returns-in-Ok-clause-does
returns-in-Ok-clause-does g c =
    let b = g.E.Broadcast in
    let m : Meaning g.row.S.Denot g.row.E.Denot g.row.C.Denot g.row.T.Denot =
    meaning g.S.Service.stands g.S.Service.rules g.S.Service.shown b.stands b.rules b.shown g.C.Coin.bits g.T.Tagger.me g.T.Tagger.tags in
    input_does m c.args.self.now c.args.value.now c.in_default.ensures.exact (c.in_default.ensures.good refl) c.try_input.new.self _ _ c.in-Ok.ensures.does

pub returns-in-Err-clause-does : goal.returns-in-Err-clause-does
returns-in-Err-clause-does g c =
    let b = g.E.Broadcast in
    let m : Meaning g.row.S.Denot g.row.E.Denot g.row.C.Denot g.row.T.Denot =
    meaning g.S.Service.stands g.S.Service.rules g.S.Service.shown b.stands b.rules b.shown g.C.Coin.bits g.T.Tagger.me g.T.Tagger.tags in
    input_stops m c.args.self.now c.args.value.now c.in_default.ensures.exact (c.in_default.ensures.good refl) c.try_input.new.self _ _ c.in-Err.ensures.does
