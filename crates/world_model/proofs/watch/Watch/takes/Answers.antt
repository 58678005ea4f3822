use Rattle.std.proofs.Common.{◌≡◌, ℕ, ◌<◌, false, subst}
use Rattle.ritas_base.specs.declared.item.Kind.TheVariants.{Send}
use Rattle.ritas_base.specs.Messages.{kind_eq}
use Rattle.keyed_channel.specs.KeyRow.{KeyRow}
use Rattle.ritas_core.specs.Machine.{CoreState}
use Rattle.world_model.specs.World.{Setting}
use Rattle.world_model.specs.Stands.{SeatsStand}
use Rattle.world_model.specs.Watch.{TablesStand, MeetsItem}
use Rattle.world_model.proofs.Meeting.{if_ok}
use Rattle.world_model.proofs.KeysAt.{keys_are}
use Rattle.world_model.proofs.Watching.{no_send_there}
use Rattle.world_model.proofs.watch.Watch.takes.Goals as goal

pub returns-in_default-kind : goal.returns-in_default-kind
returns-in_default-kind c = record {
  met =
      if_ok
      (λ clash. (at : ℕ) → kind_eq c.args.item.now.kind Send ≡ false → MeetsItem c.args.self.now c.hashes.new.self c.in-Some.keys.now at c.args.item.now clash)
      (λ clash. (w : Setting) (states : ℕ → CoreState) → SeatsStand w c.args.seats.now → TablesStand w states c.args.self.now → c.args.at < w.numbers.n
      → MeetsItem c.args.self.now c.hashes.new.self (w.keys c.args.at) c.args.at c.args.item.now clash)
      (λ clash meets. λ w states seats stand below.
      subst (λ (k : KeyRow). MeetsItem c.args.self.now c.hashes.new.self k c.args.at c.args.item.now clash)
      (keys_are w c.args.seats.now c.args.at c.from.result c.deref.result.now c.in-Some.keys.now seats below c.from.ensures c.deref.ensures.value
      c.in-Some.ensures.lookup.3.0 c.in-Some.ensures.lookup.1)
      (meets c.args.at (no_send_there c.args.item.now.kind c.in_default-kind.not-Send)))
      c.hashes.result c.hashes.ensures.met;
  same = c.hashes.ensures.same;
}
