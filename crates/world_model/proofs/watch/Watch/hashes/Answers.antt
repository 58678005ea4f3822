use Rattle.std.proofs.Common.{refl}
use Rattle.world_model.proofs.Watching.{hash_meets, nothing_said, of_another_kind}
use Rattle.world_model.proofs.watch.Watch.hashes.Goals as goal

pub returns-clause-met : goal.returns-clause-met
returns-clause-met c = λ at other. record {
  verdict = refl;
  hashed = λ prints stand.
      hash_meets c.digest_of.new.self c.args.keys.now c.args.item.now c.as_slice.result.now prints c.in_ok-digest.digest c.is_none.result c.as_slice.ensures other c.is_none.ensures
      (c.in_ok-digest.ensures prints stand);
  sent = λ fine. nothing_said c.args.self.now.sent.table c.args.keys.now at c.args.item.now (of_another_kind c.args.item.now other);
}
