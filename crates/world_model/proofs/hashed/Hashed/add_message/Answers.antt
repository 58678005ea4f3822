use Rattle.std.proofs.Common.{refl, ◌∙◌, ap, cond, Some}
use Rattle.std.specs.Str.{bytes_eq}
use Rattle.world_model.specs.Hashed.{digest_at}
use Rattle.world_model.proofs.HashedSteps.{digest_taken, was_new, message_put}
use Rattle.command_log.specs.ByteKeys.{put_at_bytes}
use Rattle.world_model.proofs.hashed.Hashed.add_message.Goals as goal

pub returns-then-not-branch : goal.returns-then-not-branch
returns-then-not-branch c = λ k prints digest none stand.
    digest_taken c.args.self.now k c.args.message.now c.args.digest c.in_ok-insert.field-0 c.in_ok-insert.ensures.added c.if-not-branch.true digest none prints stand

pub returns : goal.returns
returns c = λ k prints digest none stand.
    message_put c.args.self.now _ k c.args.message.now c.args.digest none (was_new _ c.in_ok-insert.field-0 c.in_ok-insert.ensures.added c.if-not-branch.false) digest refl
    (λ v. put_at_bytes (λ x. x.items) c.args.self.now.messages c.insert-2.new.self c.in_ok-message.message c.args.digest c.in_ok-insert-2.ensures.updates v
    ∙ ap (λ bs. cond (bytes_eq bs v) (Some c.args.digest) (digest_at c.args.self.now v)) c.in_ok-message.ensures.items)
    c.in_ok-insert.ensures.updates.0 prints stand
