-- A row that f + 1 replicas gave is that of the longest correct chain.
use Rattle.std.specs.Prelude.{length}
use Rattle.std.proofs.Common.{arith}
use Rattle.std.proofs.lemmas.List.FromFn.{length-range_with_len}
use Rattle.ritas_base.specs.History.{replicas}
use Rattle.ritas_base.specs.Quorums.{meet_two}
use Rattle.epoch_chain.specs.Epochs.{AdoptedIsTrue, AdoptedIsPart}
use Rattle.epoch_chain.proofs.Parts.{row_in_part, part_with_next}

pub adopted_is_true : AdoptedIsTrue
adopted_is_true n f is_correct chain longest gave position r givers many =
    let enough = givers.enough in
    let both = meet_two gave is_correct (replicas n) (omega (arith, many, enough, length-range_with_len 0 n)) in
    row_in_part (chain both.member) longest (givers.parts both.member both.second) position r (givers.true_rows both.member both.second both.first)

pub adopted_is_part : AdoptedIsPart
adopted_is_part n f is_correct chain longest own gave r givers many part =
    part_with_next own longest r part (adopted_is_true n f is_correct chain longest gave (length own) r givers many)
