use Rattle.std.proofs.Common.{refl, sym, ◌∙◌, ap, subst, ap₂, ℕ}
use Rattle.std.specs.Prelude.{if◌then◌else◌}
use Rattle.ritas_base.specs.declared.mode.Mode.{Mode}
use Rattle.ritas_base.specs.Slots.{has_tries}
use Rattle.ritas_base.specs.Numbers.{Numbers, IsSession}
use Rattle.ordered_rounds.proofs.Hearing.{begins}
use Rattle.ordered_rounds.proofs.ordered.OrderedService.new.Goals as goal

pub returns : goal.returns
returns g c = λ seat numbers mode me.
    begins g.V.RoundBox.stands g.V.RoundBox.rules g.met.V.RoundBox.round_laws g.V.RoundBox.live g.V.RoundBox.shown g.met.V.RoundBox.shows
    _ seat (subst (λ (p : Numbers). IsSession p) (sym numbers) c.new.ensures.session) (c.new.ensures.numbers ∙ sym numbers)
    (c.new.ensures.version ∙ sym (ap (λ (m : Mode). m.version) mode)) (c.new.ensures.me ∙ sym me)
    (c.new.ensures.last ∙ ap₂ (λ (r : ℕ) (q : Numbers). if has_tries r then q.f else 0) c.service.ensures (sym numbers)) refl refl
    c.new-2.ensures refl c.none.ensures.current c.none.ensures.older refl
