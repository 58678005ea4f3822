use Rattle.std.proofs.Common.{◌≡◌, Option, Some, None, Ok, Result, subst, ap, ◌∙◌}
use Rattle.ritas_base.specs.declared.bytes.Mem.{Mem}
use Rattle.ritas_core.specs.declared.change.Change.{Change}
use Rattle.ritas_core.specs.CoreCalls.{GivesLayers}
use Rattle.ritas_core.specs.Stands.{Meaning, meaning}
use Rattle.ritas_core.proofs.Means.{means_well}
use Rattle.ritas_core.proofs.CallSteps.{repeat_does}
use Rattle.ritas_core.proofs.PassSteps.{finish_does, withdraws_does, fails_does}
use Rattle.ritas_core.proofs.kernel.Core.pass_on.Goals as goal

pub returns-in-None-clause-does : goal.returns-in-None-clause-does
returns-in-None-clause-does g c =
    let b = g.E.Broadcast in
    let m : Meaning g.row.S.Denot g.row.E.Denot g.row.C.Denot g.row.T.Denot =
    meaning g.S.Service.stands g.S.Service.rules g.S.Service.shown b.stands b.rules b.shown g.C.Coin.bits g.T.Tagger.me g.T.Tagger.tags in
    let well = means_well m b.live g.met.E.Broadcast.value_laws g.met.S.Service.word_laws g.met.S.Service.shows g.met.E.Broadcast.shows in
    let was : c.args.taken ≡ Ok None = c.in-Ok.is ∙ ap (λ (h : Option Change). Ok h) c.in-None.is in
    λ old item gives_it. repeat_does m well old c.args.self.now item c.args.made.items c.args.out.now.items (subst (λ (x : Result (Option Change) Mem). GivesLayers m old c.args.self.now item c.args.made.items x) was gives_it)

pub returns-in-Ok-finish-clause-does : goal.returns-in-Ok-finish-clause-does
returns-in-Ok-finish-clause-does g c =
    let b = g.E.Broadcast in
    let m : Meaning g.row.S.Denot g.row.E.Denot g.row.C.Denot g.row.T.Denot =
    meaning g.S.Service.stands g.S.Service.rules g.S.Service.shown b.stands b.rules b.shown g.C.Coin.bits g.T.Tagger.me g.T.Tagger.tags in
    let well = means_well m b.live g.met.E.Broadcast.value_laws g.met.S.Service.word_laws g.met.S.Service.shows g.met.E.Broadcast.shows in
    let was : c.args.taken ≡ Ok (Some c.in-Some.change) = c.in-Ok.is ∙ ap (λ (h : Option Change). Ok h) c.in-Some.is in
    λ old item gives_it. finish_does m well (record { down = g.met.S.Service.opens_down; by_kind = g.met.E.Broadcast.ready_by_kind }) old c.args.self.now c.finish.new.self item c.in-Some.change c.args.made.items
    c.args.out.now.items c.finish.new.out.items (subst (λ (x : Result (Option Change) Mem). GivesLayers m old c.args.self.now item c.args.made.items x) was gives_it) c.in-Ok-finish.ensures.ok

pub returns-in-Err-finish-clause-does : goal.returns-in-Err-finish-clause-does
returns-in-Err-finish-clause-does g c =
    let b = g.E.Broadcast in
    let m : Meaning g.row.S.Denot g.row.E.Denot g.row.C.Denot g.row.T.Denot =
    meaning g.S.Service.stands g.S.Service.rules g.S.Service.shown b.stands b.rules b.shown g.C.Coin.bits g.T.Tagger.me g.T.Tagger.tags in
    let well = means_well m b.live g.met.E.Broadcast.value_laws g.met.S.Service.word_laws g.met.S.Service.shows g.met.E.Broadcast.shows in
    let was : c.args.taken ≡ Ok (Some c.in-Some.change) = c.in-Ok.is ∙ ap (λ (h : Option Change). Ok h) c.in-Some.is in
    λ old item gives_it. withdraws_does m well old c.args.self.now c.finish.new.self item c.in-Some.change c.args.made.items
    c.args.out.now.items c.finish.new.out.items (subst (λ (x : Result (Option Change) Mem). GivesLayers m old c.args.self.now item c.args.made.items x) was gives_it) c.in-Err-finish.ensures.err

pub returns-in-Err-clause-does : goal.returns-in-Err-clause-does
returns-in-Err-clause-does g c =
    let b = g.E.Broadcast in
    let m : Meaning g.row.S.Denot g.row.E.Denot g.row.C.Denot g.row.T.Denot =
    meaning g.S.Service.stands g.S.Service.rules g.S.Service.shown b.stands b.rules b.shown g.C.Coin.bits g.T.Tagger.me g.T.Tagger.tags in
    let well = means_well m b.live g.met.E.Broadcast.value_laws g.met.S.Service.word_laws g.met.S.Service.shows g.met.E.Broadcast.shows in
    λ old item gives_it. fails_does m well old c.args.self.now item c.args.made.items c.args.out.now.items c.in-Err.field-0 (rw c.in-Err.is at gives_it)
