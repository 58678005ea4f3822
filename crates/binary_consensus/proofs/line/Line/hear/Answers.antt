use Rattle.std.proofs.Common.{◌≡◌, ◌<◌, ◌∙◌, subst, ℕ, List, None}
use Rattle.std.specs.Vec.{with_items}
use Rattle.std.proofs.lemmas.List.{with_items_is}
use Rattle.layer_api.specs.Binary.{vote_limit}
use Rattle.binary_consensus.specs.Steps.{step_of}
use Rattle.binary_consensus.specs.Counts.{HeardRows, HearsOneVote, HearsByte, row_votes, sender_byte, heards}
use Rattle.binary_consensus.specs.declared.line.StepVotes.{StepVotes}
use Rattle.binary_consensus.proofs.Lines.{hears_one}
use Rattle.binary_consensus.proofs.line.Line.hear.Goals as goal

pub returns : goal.returns
returns c =
    let p = c.self.inside.params in
    let rows = c.self.inside.steps.items in
    let more = c.make_room.new.steps.items in
    let new = c.hear_at.new.steps in
    let t = c.args.t in
    let k = c.args.origin in
    let v = c.args.value in
    let at : c.from-at.result ≡ t = c.from-at.ensures in
    let origin : c.from.result ≡ k = c.from.ensures in
    let heard : k < p.n → sender_byte more t k ≡ 255 → v < vote_limit (step_of t) → HearsByte t k v more new =
    subst (λ (xs : List StepVotes). k < p.n → sender_byte xs t k ≡ 255 → v < vote_limit (step_of t) → HearsByte t k v xs new) c.deref_mut.ensures.value
    (subst (λ (j : ℕ). j < p.n → sender_byte c.deref_mut.result.now t j ≡ 255 → v < vote_limit (step_of t) → HearsByte t j v c.deref_mut.result.now new) origin
    (subst (λ (s : ℕ). c.from.result < p.n → sender_byte c.deref_mut.result.now s c.from.result ≡ 255 → v < vote_limit (step_of s) → HearsByte s c.from.result v c.deref_mut.result.now new) at
    c.hear_at.ensures.heard)) in
    let back : (with_items c.make_room.new.steps new).items ≡ new = with_items_is c.make_room.new.steps new (c.hear_at.auto.steps ∙ c.deref_mut.ensures.len) in
    rw back (subst (λ (h : HeardRows). k < h.numbers.n → row_votes h.rows t k ≡ None → v < vote_limit (step_of t) → HearsOneVote t k v h (record { numbers = p; rows = heards new })) c.self.view_is
    (λ within free small. hears_one p rows more new t k v c.in_ok-make_room.ensures.same heard within free small))
