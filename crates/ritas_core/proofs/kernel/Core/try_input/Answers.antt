use Rattle.std.proofs.Common.{Result, sym, subst}
use Rattle.std.proofs.lemmas.Result.{err_from_is_err_and}
use Rattle.ritas_base.specs.declared.bytes.Mem.{Mem}
use Rattle.ritas_core.specs.CoreCalls.{TriesInput}
use Rattle.ritas_core.specs.Stands.{Meaning, meaning}
use Rattle.ritas_core.proofs.Means.{means_well}
use Rattle.ritas_core.proofs.PassSteps.{input_fails, input_withdraws}
use Rattle.ritas_core.proofs.CoreSteps.{enters_input}
use Rattle.ritas_core.proofs.kernel.Core.try_input.Goals as goal

pub returns-clause-does : goal.returns-clause-does
returns-clause-does g c =
    let b = g.E.Broadcast in
    let m : Meaning g.row.S.Denot g.row.E.Denot g.row.C.Denot g.row.T.Denot =
    meaning g.S.Service.stands g.S.Service.rules g.S.Service.shown b.stands b.rules b.shown g.C.Coin.bits g.T.Tagger.me g.T.Tagger.tags in
    let well = means_well m b.live g.met.E.Broadcast.value_laws g.met.S.Service.word_laws g.met.S.Service.shows g.met.E.Broadcast.shows in
    enters_input m well (record { down = g.met.S.Service.opens_down; by_kind = g.met.E.Broadcast.ready_by_kind }) c.args.self.now c.finish.new.self c.input.new.self c.args.value.now
    c.new-made.result.items c.input.new.made.items _ _ c.new-made.ensures.items c.input.ensures.same c.input.ensures.outputs c.in_ok-input.ensures.told c.in_ok-finish.ensures.ok

pub returns-in_err-input-clause-does : goal.returns-in_err-input-clause-does
returns-in_err-input-clause-does g c =
    let b = g.E.Broadcast in
    let m : Meaning g.row.S.Denot g.row.E.Denot g.row.C.Denot g.row.T.Denot =
    meaning g.S.Service.stands g.S.Service.rules g.S.Service.shown b.stands b.rules b.shown g.C.Coin.bits g.T.Tagger.me g.T.Tagger.tags in
    let well = means_well m b.live g.met.E.Broadcast.value_laws g.met.S.Service.word_laws g.met.S.Service.shows g.met.E.Broadcast.shows in
    let old = c.args.self.now in
    let sent = c.args.out.now.items in
    let p = err_from_is_err_and c.from_residual.result c.from_residual.ensures.1 in
    subst (λ (r : Result (Unit {0}) Mem). TriesInput m old (record old { layers = c.input.new.self }) c.args.value.now sent sent r) (sym p.1)
    (input_fails m well old c.input.new.self c.args.value.now sent c.input.ensures.same c.input.ensures.outputs c.in_err-input.ensures.missed)

pub returns-in_err-finish-clause-does : goal.returns-in_err-finish-clause-does
returns-in_err-finish-clause-does g c =
    let b = g.E.Broadcast in
    let m : Meaning g.row.S.Denot g.row.E.Denot g.row.C.Denot g.row.T.Denot =
    meaning g.S.Service.stands g.S.Service.rules g.S.Service.shown b.stands b.rules b.shown g.C.Coin.bits g.T.Tagger.me g.T.Tagger.tags in
    let well = means_well m b.live g.met.E.Broadcast.value_laws g.met.S.Service.word_laws g.met.S.Service.shows g.met.E.Broadcast.shows in
    let old = c.args.self.now in
    let p = err_from_is_err_and c.from_residual-in_err-finish.result c.from_residual-in_err-finish.ensures.1 in
    subst (λ (r : Result (Unit {0}) Mem). TriesInput m old c.finish.new.self c.args.value.now c.args.out.now.items c.finish.new.out.items r) (sym p.1)
    (input_withdraws m well old c.finish.new.self c.input.new.self c.args.value.now c.new-made.result.items c.input.new.made.items c.args.out.now.items c.finish.new.out.items
    c.input.ensures.same c.input.ensures.outputs c.in_ok-input.ensures.told c.in_err-finish.ensures.err)
