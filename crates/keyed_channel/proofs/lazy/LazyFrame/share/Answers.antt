use Rattle.std.proofs.Common.{List, ℕ, ◌∙◌, ap₂}
use Rattle.keyed_channel.specs.Frames.{frame_front, with_tag}
use Rattle.keyed_channel.proofs.lazy.LazyFrame.share.Goals as goal

pub returns : goal.returns
returns c =
    let f = c.self.inside in
    ap₂ (λ (body key : List ℕ). with_tag key (frame_front f.version f.from f.to f.seq body)) c.in_ok-clone.ensures.cases c.in_ok-clone-2.ensures.cases
    ∙ c.self.view_is
