use Rattle.std.proofs.Common.{◌≡◌, ℕ, length, take, ap, ◌∙◌, arith, w8, nat_eq}
use Rattle.std.specs.Int.RustNames.{count_ones}
use Rattle.std.proofs.lemmas.List.{take_all, length-take-le}
use Rattle.std.proofs.lemmas.Simd.{bitmask_splat, ones-mask_l}
use Rattle.vote_lanes.specs.Plain.{equal_places}
use Rattle.vote_lanes.proofs.count.count_in_lane.Goals as goal

pub returns : goal.returns
returns c =
    let xs = take 16 c.args.lane.now in
    let whole : xs ≡ c.args.lane.now = take_all 16 c.args.lane.now (omega arith) in
    let long : length xs ≡ 16 = ap length whole ∙ c.requires in
    ap count_ones (bitmask_splat w8 nat_eq xs 16 c.args.v long (omega arith))
    ∙ (ones-mask_l (λ (x : ℕ). nat_eq x c.args.v) xs ∙ ap (λ xs. equal_places xs c.args.v) whole)
