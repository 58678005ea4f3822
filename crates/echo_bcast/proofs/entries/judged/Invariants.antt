use Rattle.std.proofs.Common.{◌≡◌}
use Rattle.echo_bcast.specs.State.{JoinsSet, adds_to}
use Rattle.echo_bcast.proofs.entries.judged.Given as goal

abbrev pub invariant-loop-echoer : goal.invariant-loop-echoer
invariant-loop-echoer g l =
    JoinsSet (record { me = g.T.Tagger.me l.t; tags = g.T.Tagger.tags l.t }) l.slot l.echoer l.digest l.value l.good l.all
    × (l.news ≡ adds_to (record { me = g.T.Tagger.me l.t; tags = g.T.Tagger.tags l.t }) l.slot l.echoer l.digest l.value l.good)
