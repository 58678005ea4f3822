use Rattle.std.proofs.Common.{◌≡◌, sym, ◌∙◌}
use Rattle.reliable_bcast.specs.Bracha.{bracha}
use Rattle.reliable_bcast.specs.Digests.{by_digest}
use Rattle.echo_bcast.specs.Matrix.{echo}
use Rattle.schedule_file.specs.declared.header.Header.{Header}
use Rattle.schedule_replay.specs.Layers.{other_of, setting_by}
use Rattle.schedule_replay.proofs.Deals.{form_one, with_form}
use Rattle.node_session.proofs.life.live_by.Goals as goal

pub live_as-requires-else-form-eq3-clause-form : goal.live_as-requires-else-form-eq3-clause-form
live_as-requires-else-form-eq3-clause-form g c = form_one c.args.life.now.session.header.mode _ c.other_form-form.ensures c.if-form-eq2.false c.if-form-eq3.false

pub returns-then-form-eq2-clause-served : goal.returns-then-form-eq2-clause-served
returns-then-form-eq2-clause-served g c = λ head stands.
    let h : Header = c.args.life.now.session.header in
    let same : setting_by g.S.Service.rules echo h ≡ setting_by g.S.Service.rules (other_of h.mode) h = with_form g.S.Service.rules h 2 (sym c.if-form-eq2.true ∙ c.other_form-form.ensures) in
    rw same at (c.live_as.ensures.served head stands)

pub returns-then-form-eq3-clause-served : goal.returns-then-form-eq3-clause-served
returns-then-form-eq3-clause-served g c = λ head stands.
    let h : Header = c.args.life.now.session.header in
    let same : setting_by g.S.Service.rules by_digest h ≡ setting_by g.S.Service.rules (other_of h.mode) h = with_form g.S.Service.rules h 3 (sym c.if-form-eq3.true ∙ c.other_form-form.ensures) in
    rw same at (c.live_as-then-form-eq3.ensures.served head stands)

pub returns-else-form-eq3-clause-served : goal.returns-else-form-eq3-clause-served
returns-else-form-eq3-clause-served g c = λ head stands.
    let h : Header = c.args.life.now.session.header in
    let same : setting_by g.S.Service.rules bracha h ≡ setting_by g.S.Service.rules (other_of h.mode) h = with_form g.S.Service.rules h 1 (form_one h.mode _ c.other_form-form.ensures c.if-form-eq2.false c.if-form-eq3.false) in
    rw same at (c.live_as-else-form-eq3.ensures.served head stands)
