use Rattle.std.proofs.Common.{ℕ, Bool, not, ◌&&◌, nat_lt, sym, ◌∙◌, ap, arith}
use Rattle.std.proofs.lemmas.Bool.{ltb-true, and_parts}
use Rattle.ritas_base.specs.Members.{has_member}
use Rattle.schedule_replay.proofs.first.first_faces.Goals as goal

pub world_with-requires-clause-within : goal.world_with-requires-clause-within
world_with-requires-clause-within g c = λ i member.
    let h = c.args.header.now in
    let in_both = sym (c.others.ensures i) ∙ member in
    let below = ltb-true i c.n.result (and_parts (nat_lt i c.n.result) (not (has_member h.correct i)) in_both).0 in
    omega (arith, below, c.n.ensures.value)

pub returns : goal.returns
returns g c =
    let h = c.args.header.now in
    let is_faulty : ℕ → Bool = λ j. nat_lt j h.p.n && not (has_member h.correct j) in
    c.world_with.ensures is_faulty (λ j. sym (c.others.ensures j ∙ ap (λ (n : ℕ). nat_lt j n && not (has_member h.correct j)) c.n.ensures.value))
