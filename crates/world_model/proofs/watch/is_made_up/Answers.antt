use Rattle.std.proofs.Common.{◌≡◌, true, List, ℕ, Some, sym, ◌∙◌, ap}
use Rattle.std.specs.Option.{option_copied}
use Rattle.world_model.specs.Met.{is_unknown}
use Rattle.world_model.proofs.Watching.{unknown_is}
use Rattle.world_model.proofs.watch.is_made_up.Goals as goal

pub returns : goal.returns
returns c = λ w states m seats stand below within said is column.
    let right : w.is_correct c.args.echoer ≡ true = seats.correct c.args.echoer ∙ sym c.has.ensures ∙ c.if-not-has.false in
    c.is_unknown.ensures ∙ ap (λ (v : List ℕ). is_unknown c.args.met.now (option_copied c.at.result) c.args.echoer v) c.as_slice.ensures
    ∙ unknown_is w states c.args.at c.args.echoer m c.args.item.now (Some c.args.here.now) c.args.met.now (option_copied c.at.result)
    (seats.own c.args.at below) (seats.own c.args.echoer within) within stand right c.at.ensures said is column
