use Rattle.std.proofs.Common.{◌≡◌, Bool, true, ap, ap₂, sym, ◌∙◌, arith, length, drop}
use Rattle.std.specs.Prelude.{◌&&◌}
use Rattle.std.specs.Str.{bytes_eq}
use Rattle.vote_lanes.proofs.Lanes.{same_halves}
use Rattle.vote_lanes.proofs.rows.is_same_row.Goals as goal

pub returns-then-is_same_lane : goal.returns-then-is_same_lane
returns-then-is_same_lane c =
    let same : length c.args.row.now ≡ length c.args.other.now = omega arith in
    let fronts = ap₂ bytes_eq c.split_at.ensures.front c.split_at-2.ensures.front in
    let backs = ap₂ bytes_eq c.split_at.ensures.back c.split_at-2.ensures.back in
    let first = sym (sym c.is_same_lane.ensures ∙ c.if-is_same_lane.true) ∙ fronts in
    c.is_same_lane-then-is_same_lane.ensures ∙ backs
    ∙ ap (λ (b : Bool). b && bytes_eq (drop 16 c.args.row.now) (drop 16 c.args.other.now)) first
    ∙ same_halves 16 c.args.row.now c.args.other.now same
