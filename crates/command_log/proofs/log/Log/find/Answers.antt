use Rattle.std.proofs.Common.{◌≡◌, ◌↔◌, ap, subst, List, Some}
use Rattle.command_log.specs.Rows.{Row, HasPlace}
use Rattle.command_log.specs.Standing.{Ledger}
use Rattle.command_log.proofs.log.Log.find.Goals as goal

pub returns-clause-exact : goal.returns-clause-exact
returns-clause-exact c = λ position.
    subst (λ (rs : List Row). (c.find.result ≡ Some position) ↔ HasPlace rs position c.args.client c.args.request)
    (ap (λ (l : Ledger). l.rows) c.self.view_is) (c.find.ensures.exact position)
