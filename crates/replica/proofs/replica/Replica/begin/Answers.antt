use Rattle.std.proofs.Common.{refl, ◌∙◌}
use Rattle.replica.proofs.Fresh.{fresh_stands, zeros}
use Rattle.replica.proofs.replica.Replica.begin.Goals as goal

pub returns : goal.returns
returns g c =
    let core = c.in_ok-core.ensures {u = tt} in
    let same = c.in_ok-channel.ensures {u = tt} in
    let stands = rw (c.me.ensures.value, same) at core.stands in
    fresh_stands c.args.log.start _ _ _ _ _ (g.met.S.Service.word_laws.done_nothing _) (record { going = refl; each = λ j. zeros 31 j; all = refl; start = refl; room = c.requires.room; log = c.requires.fresh; fed = refl }) c.requires.origins (core.tagger ∙ same) refl c.requires.made_for stands
