use Rattle.std.proofs.Common.{rules, ◌≡◌, ◌∙◌, sym, subst, List}
use Rattle.command_log.specs.Rows.{Row, position_of, AreOnce}
use Rattle.command_log.proofs.Places.{place_from, place_to}
use Rattle.command_log.proofs.rows.Rows.find.Goals as goal

pub returns-clause-exact : goal.returns-clause-exact
returns-clause-exact c = λ position.
    let rs = c.args.self.now in
    let client = c.args.client in
    let request = c.args.request in
    let value : c.copied.result ≡ position_of rs client request = search rules in
    let once : AreOnce rs = subst (λ (l : List Row). AreOnce l) c.self.view_is c.self.invariant.once in
    (λ found. place_from rs position client request (sym value ∙ found), λ place. value ∙ place_to rs position client request once place)
