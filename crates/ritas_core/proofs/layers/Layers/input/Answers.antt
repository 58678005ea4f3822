use Rattle.std.proofs.lemmas.Result.{on_ok_weaker, on_err_weaker}
use Rattle.layer_api.specs.Words.{Ask}
use Rattle.ritas_core.specs.Rules.{seat_of}
use Rattle.ritas_core.specs.Stands.{rules_of}
use Rattle.ritas_core.proofs.TestLaws.{on_err_here}
use Rattle.ritas_core.proofs.Means.{means_by, means_well}
use Rattle.ritas_core.proofs.ShownLayers.{service_fails, starts_told, starts_fail}
use Rattle.ritas_core.proofs.layers.Layers.input.Goals as goal

pub returns-in_err-input-clause-missed : goal.returns-in_err-input-clause-missed
returns-in_err-input-clause-missed g c =
    let m = means_by g.S.Service g.E.Broadcast g.C.Coin g.T.Tagger in
    let well = means_well m g.E.Broadcast.live g.met.E.Broadcast.value_laws g.met.S.Service.word_laws g.met.S.Service.shows g.met.E.Broadcast.shows in
    let old = c.args.self.now in
    on_err_here c.from_residual.result (service_fails m well old c.input.new.self (Ask c.args.value.now)
    (λ p can. c.in_err-input.ensures.shows (seat_of (rules_of m old)) p.words can.stood.service can.may.0))

pub returns-clause-told : goal.returns-clause-told
returns-clause-told g c =
    let m = means_by g.S.Service g.E.Broadcast g.C.Coin g.T.Tagger in
    let well = means_well m g.E.Broadcast.live g.met.E.Broadcast.value_laws g.met.S.Service.word_laws g.met.S.Service.shows g.met.E.Broadcast.shows in
    let old = c.args.self.now in
    on_ok_weaker c.start_said.result
    (starts_told m well old c.input.new.self c.start_said.new.self (Ask c.args.value.now) _ _ _ c.as_slice.result.now
    (λ p can. can.may.0) c.in_ok-input.ensures c.new-says.ensures.items c.as_slice.ensures.value c.start_said.ensures.rest
    c.args.made.now.items c.start_said.new.made.items)
    c.start_said.ensures.ok

pub returns-clause-missed : goal.returns-clause-missed
returns-clause-missed g c =
    let m = means_by g.S.Service g.E.Broadcast g.C.Coin g.T.Tagger in
    let well = means_well m g.E.Broadcast.live g.met.E.Broadcast.value_laws g.met.S.Service.word_laws g.met.S.Service.shows g.met.E.Broadcast.shows in
    let old = c.args.self.now in
    on_err_weaker c.start_said.result
    (starts_fail m well old c.input.new.self c.start_said.new.self (Ask c.args.value.now) _ _ _ c.as_slice.result.now
    (λ p can. can.may.0) c.in_ok-input.ensures c.new-says.ensures.items c.as_slice.ensures.value c.start_said.ensures.rest)
    c.start_said.ensures.err
