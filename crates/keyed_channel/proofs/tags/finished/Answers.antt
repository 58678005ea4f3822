-- The outer hasher takes the digest of what the inner one holds.
use Rattle.keyed_channel.specs.Hmac.{hmac_of, pad}
use Rattle.keyed_channel.proofs.tags.finished.Goals as goal

pub returns : goal.returns
unfolding hmac_of
returns c = λ key text held_inner held_outer.
    let digest = c.finalize.ensures _ held_inner in
    let held = rw digest at (c.update.ensures (pad 0x5c key) held_outer) in
    c.finalize-2.ensures _ held
