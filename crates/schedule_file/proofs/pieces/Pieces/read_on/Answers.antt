use Rattle.std.proofs.Common.{◌≡◌, ◌≤◌, ◌+◌, ◌-◌, List, ℕ, ◌++◌, length, take, arith, ap, sym, ◌∙◌, append_assoc}
use borrow.Rule.Slice.PartMut.{put_mid, post_of}
use Rattle.schedule_file.specs.Place.{Unread}
use Rattle.schedule_file.proofs.Chunks.{filled}
use Rattle.schedule_file.proofs.pieces.Pieces.read_on.Goals as goal

pub returns-clause-same : goal.returns-clause-same
returns-clause-same g c = λ tells.
    let bytes = c.args.self.now.bytes in
    let left = g.S.Source.left c.read.new.self in
    let r = c.move_to_front-self-inside.result in
    let moved = c.move_to_front-self-inside.new.piece in
    let k = c.in_ok-count.count in
    let came = c.read.new.buf in
    let held : take r moved ≡ bytes = c.move_to_front-self-inside.ensures.part ∙ ap (λ (h : Unread). h.bytes) c.self.view_is in
    let within : r ≤ length moved = omega arith in
    let fits : k ≤ length came = omega (arith, c.read.auto.buf, c.in_ok-count.ensures.count) in
    let whole : take (r + k) (put_mid r (65536 - r) moved came) ≡ take r moved ++ take k came = filled r k moved came (post_of r (65536 - r) moved) within fits in
    ap (λ (t : List ℕ). t ++ left) (whole ∙ ap (λ (t : List ℕ). t ++ take k came) held) ∙ append_assoc bytes (take k came) left
    ∙ ap (λ (t : List ℕ). bytes ++ t) (sym (c.in_ok-count.ensures.bytes tells))
