use Rattle.std.proofs.Common.{◌≡◌, ◌==◌, ℕ, length, not, ap, sym, ◌∙◌, arith}
use Rattle.std.specs.Vec.{vec_len}
use Rattle.schedule_drive.proofs.Lanes.{open_front, open_rest}
use Rattle.schedule_drive.proofs.lane.Lane.is_open.Goals as goal

pub returns-then-not-is_empty : goal.returns-then-not-is_empty
returns-then-not-is_empty c = λ count left is.
    let front = c.args.self.now.front in
    let same : length front.items ≡ vec_len front = omega arith in
    ap not c.if-not-is_empty.true
    ∙ sym (open_front c.args.self.now count left is (ap (λ (k : ℕ). not (k == 0)) same ∙ ap not (sym c.is_empty.ensures ∙ c.if-not-is_empty.true)))

pub returns-else-not-is_empty : goal.returns-else-not-is_empty
returns-else-not-is_empty c = λ count left is.
    let front = c.args.self.now.front in
    let same : length front.items ≡ vec_len front = omega arith in
    open_rest c.args.self.now count left is (ap (λ (k : ℕ). not (k == 0)) same ∙ ap not (sym c.is_empty.ensures ∙ c.if-not-is_empty.false))
