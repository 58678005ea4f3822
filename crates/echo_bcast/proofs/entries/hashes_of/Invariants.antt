use Rattle.std.proofs.Common.{◌≡◌}
use Rattle.echo_bcast.specs.Matrix.{hashes_bytes}
use Rattle.echo_bcast.specs.State.{tagged}
use Rattle.echo_bcast.proofs.entries.hashes_of.Given as goal

abbrev pub invariant-loop-verifier : goal.invariant-loop-verifier
invariant-loop-verifier g l = l.out.items ≡ hashes_bytes (tagged (record { me = g.T.Tagger.me l.t; tags = g.T.Tagger.tags l.t }) l.slot l.verifier l.digest)
