use Rattle.std.proofs.Common.{◌∷◌, [], ◌++◌}
use Rattle.std.specs.List.{concat}
use Rattle.outside.specs.WritingLaws.{writes_then, fails_as}
use Rattle.schedule_file.proofs.writer.write_alone.Goals as goal

pub returns-in_err-write_all : goal.returns-in_err-write_all
returns-in_err-write_all g c =
    let rest = concat c.args.row.now ++ c.args.coin.now in
    fails_as (1 ∷ c.args.me ∷ []) rest _ _ _ _ _ _ _ c.from_residual.ensures.0 c.in_err-write_all.ensures

pub returns : goal.returns
returns g c =
    let row = concat c.args.row.now in
    let coin = c.args.coin.now in
    writes_then (1 ∷ c.args.me ∷ []) (row ++ coin) _ _ _ _ _ _ _ _ c.in_ok-write_all.ensures (writes_then row coin _ _ _ _ _ _ _ _ c.in_ok-write_each.ensures c.write_all-2.ensures)
