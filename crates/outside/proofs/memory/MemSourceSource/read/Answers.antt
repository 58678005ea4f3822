use Rattle.std.proofs.Common.{◌≡◌, drop, arith, length-drop, sym, ap, ◌∙◌}
use Rattle.outside.specs.Memory.{SourceState}
use Rattle.outside.proofs.Pieces.{piece_taken}
use Rattle.outside.proofs.memory.MemSourceSource.read.Goals as goal

pub returns-clause-bytes : goal.returns-clause-bytes
returns-clause-bytes c =
    let bytes = c.self.inside.bytes.items in
    let at = c.self.inside.at in
    let held : drop at bytes ≡ c.args.self.now.left = ap (λ (s : SourceState). s.left) c.self.view_is in
    sym held ∙ piece_taken bytes c.deref.result.now c.copy_from_slice.new.self _ at c.min-count.result c.deref.ensures.value c.copy_from_slice.ensures.after (omega (arith, c.min-count.ensures, length-drop at bytes))

pub returns-clause-end : goal.returns-clause-end
returns-clause-end c = λ none.
    absurd (omega (arith, none, c.requires, length-drop c.self.inside.at c.self.inside.bytes.items))
