use Rattle.std.proofs.Common.{◌≡◌, sym, ◌∙◌}
use Rattle.reliable_bcast.specs.Bracha.{bracha}
use Rattle.reliable_bcast.specs.Digests.{by_digest}
use Rattle.echo_bcast.specs.Matrix.{echo}
use Rattle.ritas_core.specs.Rules.{other_form}
use Rattle.schedule_replay.specs.Layers.{other_of, setting_by}
use Rattle.schedule_replay.proofs.Deals.{form_one, with_form}
use Rattle.schedule_replay.proofs.layers.replay_with.Goals as goal

pub replay_as-requires-else-form-eq3-clause-form : goal.replay_as-requires-else-form-eq3-clause-form
replay_as-requires-else-form-eq3-clause-form g c = form_one c.args.header.mode _ c.other_form-form.ensures c.if-form-eq2.false c.if-form-eq3.false

pub returns-then-form-eq2-clause-shows : goal.returns-then-form-eq2-clause-shows
returns-then-form-eq2-clause-shows g c = λ tells.
    let same : setting_by g.S.Service.rules echo c.args.header ≡ setting_by g.S.Service.rules (other_of c.args.header.mode) c.args.header =
    with_form g.S.Service.rules c.args.header 2 (sym c.if-form-eq2.true ∙ c.other_form-form.ensures) in
    rw same at (c.replay_as.ensures.shows tells)

pub returns-then-form-eq3-clause-shows : goal.returns-then-form-eq3-clause-shows
returns-then-form-eq3-clause-shows g c = λ tells.
    let same : setting_by g.S.Service.rules by_digest c.args.header ≡ setting_by g.S.Service.rules (other_of c.args.header.mode) c.args.header =
    with_form g.S.Service.rules c.args.header 3 (sym c.if-form-eq3.true ∙ c.other_form-form.ensures) in
    rw same at (c.replay_as-then-form-eq3.ensures.shows tells)

pub returns-else-form-eq3-clause-shows : goal.returns-else-form-eq3-clause-shows
returns-else-form-eq3-clause-shows g c = λ tells.
    let same : setting_by g.S.Service.rules bracha c.args.header ≡ setting_by g.S.Service.rules (other_of c.args.header.mode) c.args.header =
    with_form g.S.Service.rules c.args.header 1 (form_one c.args.header.mode _ c.other_form-form.ensures c.if-form-eq2.false c.if-form-eq3.false) in
    rw same at (c.replay_as-else-form-eq3.ensures.shows tells)
