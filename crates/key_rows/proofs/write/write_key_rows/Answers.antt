use Rattle.std.proofs.Common.{ℕ, List, ◌++◌, sym, ◌∙◌, ap₂}
use Rattle.key_rows.specs.KeyRows.{key_row}
use Rattle.key_rows.proofs.Rows.{text_more}
use Rattle.key_rows.proofs.write.write_key_rows.Goals as goal

pub loop-i-preserved : goal.loop-i-preserved
loop-i-preserved c =
    let row = c.as_str.ensures.value ∙ c.in_ok-row.ensures in
    c.in_ok-push_str.ensures.bytes
    ∙ (ap₂ (λ (so_far next : List ℕ). so_far ++ next) c.loop-i.invariant row
    ∙ sym (text_more (key_row c.args.master.now c.args.session c.args.p.now.n) c.loop-i.i))
