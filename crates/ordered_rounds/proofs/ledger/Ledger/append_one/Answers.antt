use Rattle.std.proofs.Common.{rules, ◌≡◌, ◌∙◌, sym, false}
use Rattle.layer_api.specs.Service.{has_id}
use Rattle.ordered_rounds.proofs.LedgerSteps.{one_new}
use Rattle.ordered_rounds.proofs.ledger.Ledger.append_one.Goals as goal

pub returns-in_ok-append-clause-ok : goal.returns-in_ok-append-clause-ok
returns-in_ok-append-clause-ok c = λ delivered log rest ready above stands.
    let has = c.has.ensures delivered log stands in
    let new : has_id log c.args.id ≡ false = sym has ∙ (search rules) in
    one_new _ delivered log rest c.args.id new above (c.in_ok-append.ensures.ok delivered log ready.has stands)
