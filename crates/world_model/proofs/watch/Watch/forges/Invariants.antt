use Rattle.std.proofs.Common.{◌≡◌, ℕ, ◌<◌, true, false}
use Rattle.std.specs.List.{list_any, range_with_len}
use Rattle.ritas_base.specs.declared.item.Kind.TheVariants.{Column}
use Rattle.ritas_base.specs.Messages.{kind_eq}
use Rattle.ritas_core.specs.Machine.{CoreState}
use Rattle.world_model.specs.World.{Setting}
use Rattle.world_model.specs.Audit.{is_made_up}
use Rattle.world_model.specs.Stands.{SeatsStand}
use Rattle.world_model.specs.Watch.{TablesStand}
use Rattle.world_model.proofs.watch.Watch.forges.Given as goal

-- no entry of the echoers so far is made up
abbrev pub invariant-loop-echoer : goal.invariant-loop-echoer
invariant-loop-echoer l =
    (w : Setting) (states : ℕ → CoreState) → SeatsStand w l.fn.seats → TablesStand w states l.fn.self → w.is_correct l.fn.at ≡ true → l.fn.at < w.numbers.n
    → kind_eq l.fn.item.kind Column ≡ true → list_any (is_made_up w states l.fn.at l.fn.item) (range_with_len 0 l.echoer) ≡ false
