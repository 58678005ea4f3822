use Rattle.std.proofs.Common.{◌≡◌, ℕ, List, length, take, ap, ap₂, ◌∙◌, arith}
use Rattle.std.specs.Str.{bytes_eq}
use Rattle.std.proofs.lemmas.List.{take_all}
use Rattle.vote_lanes.proofs.Lanes.{same_lanes}
use Rattle.vote_lanes.proofs.rows.is_same_lane.Goals as goal

pub returns : goal.returns
returns c =
    let xs = take 16 c.args.lane.now in
    let ys = take 16 c.args.other.now in
    let whole : xs ≡ c.args.lane.now = take_all 16 c.args.lane.now (omega arith) in
    let whole2 : ys ≡ c.args.other.now = take_all 16 c.args.other.now (omega arith) in
    same_lanes xs ys (ap length whole ∙ c.requires.lane) (ap length whole2 ∙ c.requires.other) ∙ ap₂ bytes_eq whole whole2
