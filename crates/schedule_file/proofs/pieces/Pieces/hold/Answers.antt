use Rattle.std.proofs.Common.{◌≡◌, ◌<◌, ◌≤◌, ◌+◌, ◌++◌, length, arith, ap, sym, ◌∙◌, length-append}
use Rattle.schedule_file.specs.FileBytes.{limit}
use Rattle.schedule_file.specs.Place.{Unread}
use Rattle.schedule_file.proofs.Chunks.{past_limit, cut_short}
use Rattle.schedule_file.proofs.pieces.Pieces.hold.Goals as goal

pub returns-then-have-self-clause-err : goal.returns-then-have-self-clause-err
returns-then-have-self-clause-err g c = λ tells own.
    let at = c.args.self.now.at in
    let now = c.gather.new.self.bytes in
    let left = g.S.Source.left c.gather.new.source in
    let rest = c.args.self.now.bytes ++ g.S.Source.left c.args.source.now in
    let place : c.self.inside.at ≡ at = ap (λ (h : Unread). h.at) c.self.view_is ∙ c.in_ok-gather.ensures.at in
    let long : length rest ≡ length now + length left = ap length (sym (c.in_ok-gather.ensures.same tells)) ∙ length-append now left in
    let far : limit < at + c.min-have.result = omega arith in
    past_limit c.args.len at rest (omega arith) (omega arith) (omega arith)

pub returns-then-have-len-clause-err : goal.returns-then-have-len-clause-err
returns-then-have-len-clause-err g c = λ tells own.
    let at = c.args.self.now.at in
    let now = c.gather.new.self.bytes in
    let left = g.S.Source.left c.gather.new.source in
    let rest = c.args.self.now.bytes ++ g.S.Source.left c.args.source.now in
    let place : c.self.inside.at ≡ at = ap (λ (h : Unread). h.at) c.self.view_is ∙ c.in_ok-gather.ensures.at in
    let few : length now < c.args.len = omega arith in
    let none : length left ≡ 0 = ap length (c.in_ok-gather.ensures.enough tells few) in
    let long : length rest ≡ length now + length left = ap length (sym (c.in_ok-gather.ensures.same tells)) ∙ length-append now left in
    let end : at + length rest ≡ c.self.inside.at + c.min-have.result = omega arith in
    let low : at + length rest ≤ limit = omega arith in
    rw end at (cut_short c.args.len at rest (omega arith) low)
