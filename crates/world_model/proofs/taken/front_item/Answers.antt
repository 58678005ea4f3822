use Rattle.std.proofs.Common.{◌≡◌, true, ℕ, sym, ◌∙◌, ap, arith}
use Rattle.std.proofs.lemmas.Bool.{false≢true}
use Rattle.std.specs.Option.{option_copied, is_some}
use Rattle.std.proofs.lemmas.Result.{on_err_weaker}
use Rattle.keyed_channel.specs.Keyed.{tags_of}
use Rattle.ritas_core.specs.Machine.{CoreState}
use Rattle.ritas_core.specs.Stands.{meaning}
use Rattle.world_model.specs.World.{Setting, rules_at}
use Rattle.world_model.specs.Stands.{ReplicasStand}
use Rattle.world_model.specs.Watch.{watched}
use Rattle.world_model.specs.Steps.{IsInboxFront}
use Rattle.world_model.proofs.Meeting.{if_ok}
use Rattle.world_model.proofs.Bodies.{front_is, front_waits, replica_there, none_there}
use Rattle.world_model.proofs.taken.front_item.Goals as goal

pub returns-in-Some-clause-is : goal.returns-in-Some-clause-is
returns-in-Some-clause-is g c =
    if_ok
    (λ found. found ≡ watched c.args.mode.now (option_copied c.inbox_front.result))
    (λ front. (w : Setting) (states : ℕ → CoreState) → c.args.mode.now ≡ w.mode
    → ReplicasStand (meaning g.S.Service.stands g.S.Service.rules g.S.Service.shown g.E.Broadcast.stands g.E.Broadcast.rules g.E.Broadcast.shown g.C.Coin.bits (λ k. k.me) tags_of) w states c.args.replicas.now
    → w.is_correct c.args.at ≡ true → IsInboxFront w states c.args.at front)
    (λ front found. λ w states mode stand right.
    let there = replica_there _ w states c.args.at c.from-place.result c.args.replicas.now c.index-replicas-place.result c.in-Some.replica stand c.from-place.ensures
    (omega (arith, c.if-place-replicas.false)) (sym c.index-replicas-place.is ∙ c.in-Some.is) in
    let core = c.core.ensures.live w.start (rules_at w c.args.at) (w.keys c.args.at) (states c.args.at) there.stands there.live in
    front_is w states c.args.at c.args.mode.now front (option_copied c.inbox_front.result) mode core.good_inbox (c.inbox_front.ensures (rules_at w c.args.at) (states c.args.at) core) found)
    c.watched.result c.watched.ensures.is

pub returns-in-None-clause-is : goal.returns-in-None-clause-is
returns-in-None-clause-is g c = λ w states mode stand right.
    absurd (false≢true (sym (none_there _ w states c.args.at c.from-place.result c.args.replicas.now c.index-replicas-place.result stand c.from-place.ensures
    (omega (arith, c.if-place-replicas.false)) (sym c.index-replicas-place.is ∙ c.in-None.is)) ∙ right))

pub returns-in-Some-clause-only : goal.returns-in-Some-clause-only
returns-in-Some-clause-only g c =
    on_err_weaker c.watched.result
    (λ some. λ w states stand.
    let there = replica_there _ w states c.args.at c.from-place.result c.args.replicas.now c.index-replicas-place.result c.in-Some.replica stand c.from-place.ensures
    (omega (arith, c.if-place-replicas.false)) (sym c.index-replicas-place.is ∙ c.in-Some.is) in
    let core = c.core.ensures.live w.start (rules_at w c.args.at) (w.keys c.args.at) (states c.args.at) there.stands there.live in
    (there.correct, front_waits (states c.args.at).inbox (ap is_some (sym (c.inbox_front.ensures (rules_at w c.args.at) (states c.args.at) core)) ∙ some)))
    c.watched.ensures.only
