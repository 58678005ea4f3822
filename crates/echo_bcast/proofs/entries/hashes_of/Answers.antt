use Rattle.layer_api.specs.Broadcast.{Tagging}
use Rattle.echo_bcast.proofs.EntrySteps.{hashes_put}
use Rattle.echo_bcast.proofs.entries.hashes_of.Goals as goal

pub loop-verifier-preserved : goal.loop-verifier-preserved
loop-verifier-preserved g c =
    let t : Tagging = record { me = g.T.Tagger.me c.args.t.now; tags = g.T.Tagger.tags c.args.t.now } in
    let entry = c.entry_for.ensures in
    hashes_put t c.args.slot.now c.loop-verifier.verifier c.args.digest.now c.loop-verifier.out.items c.extend_from_slice.new.self.items c.entry_for.result
    c.loop-verifier.invariant c.in_ok-extend_from_slice.ensures.items entry.value entry.whole
