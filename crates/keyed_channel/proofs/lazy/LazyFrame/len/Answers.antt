use Rattle.std.proofs.Common.{◌+◌, sym, ◌∙◌, ap, length, List, ℕ}
use Rattle.keyed_channel.specs.Lengths.{frame_overhead}
use Rattle.keyed_channel.proofs.Lazily.{length_of_tagged}
use Rattle.keyed_channel.proofs.lazy.LazyFrame.len.Goals as goal

pub returns-clause-is : goal.returns-clause-is
returns-clause-is c =
    let f = c.self.inside in
    ap (λ (body : List ℕ). length body + frame_overhead) (c.as_slice.ensures ∙ c.deref.ensures)
    ∙ sym (length_of_tagged f.version f.from f.to f.seq f.body.value f.key.value)
    ∙ ap length c.self.view_is
