use Rattle.std.proofs.Common.{refl, arith}
use Rattle.world_model.proofs.Bodies.{watched_byte}
use Rattle.world_model.proofs.taken.is_watched_body.Goals as goal

pub returns-in-len2-up : goal.returns-in-len2-up
returns-in-len2-up c = λ p from item session reads.
    watched_byte c.spelled.ensures.spelling c.spelled.ensures.answered p c.args.mode.now from c.args.body.now item _ _ c.is_watched_start.result session (λ i. omega (arith, c.type_inv.body i)) reads refl refl c.is_watched_start.ensures
