use Rattle.std.proofs.Common.{suc, ◌+◌, ◌≡◌, List, [], ◌++◌, ap, sym, ◌∙◌, arith}
use Rattle.std.specs.List.{flat_map, range_with_len}
use Rattle.std.proofs.lemmas.List.{flat_map_more}
use Rattle.ritas_base.specs.RangeLaws.{range_more}
use Rattle.world_model.specs.declared.player.Player.{Player}
use Rattle.schedule_plan.specs.Plans.{players_at}
use Rattle.schedule_drive.proofs.players.players.Goals as goal

pub loop-i-preserved : goal.loop-i-preserved
loop-i-preserved c =
    let i = c.loop-i.i in
    let at = players_at c.args.plan.now in
    let next : i + 1 ≡ suc i = omega arith in
    c.in_ok-add_players.ensures ∙ ap (λ (xs : List Player). xs ++ at i) c.loop-i.invariant
    ∙ flat_map_more at [] (range_with_len 0 i) i ∙ ap (flat_map at) (sym (ap (range_with_len 0) next ∙ range_more 0 i i (omega arith)))
