use Rattle.std.proofs.Common.{◌≡◌, ap, sym, arith, refl}
use Rattle.std.proofs.Common.{◌-◌, subst}
use Rattle.ritas_base.specs.Numbers.{Numbers, IsSession, wait_of}
use Rattle.direct_atomic.specs.Lists.{inner_desk}
use Rattle.direct_atomic.proofs.Going.{begins}
use Rattle.direct_atomic.proofs.list_round.ListRoundRoundBox.new.Goals as goal

pub returns : goal.returns
returns g c = λ at numbers me a attempt.
    let n = ap (λ (p : Numbers). p.n) numbers in
    let f = ap (λ (p : Numbers). p.f) numbers in
    let wait : c.n.result - c.f.result ≡ wait_of at.scope.numbers = omega (arith, n, f) in
    begins g.M.MultiBox.stands g.M.MultiBox.rules g.met.M.MultiBox.multi_laws g.M.MultiBox.live g.M.MultiBox.shown g.met.M.MultiBox.shows _ at (subst (λ (p : Numbers). IsSession p) (sym numbers) c.f.ensures.session) (sym numbers) (sym me) (sym a) wait refl refl c.new.ensures.empty refl
    (c.in_ok-new.ensures (inner_desk at) numbers me a refl) refl
