-- The front in two parts.
use Rattle.std.proofs.Common.{List, ℕ, ◌++◌, sym, ◌∙◌, ap, ap₂}
use Rattle.keyed_channel.specs.Hmac.{hmac_of}
use Rattle.keyed_channel.specs.Frames.{frame_front, tagged_front}
use Rattle.keyed_channel.proofs.Lazily.{front_of_tagged}
use Rattle.keyed_channel.proofs.lazy.LazyFrame.tag_under.Goals as goal

pub returns : goal.returns
returns c =
    let f = c.self.inside in
    let key = c.args.key.now in
    let front = frame_front f.version f.from f.to f.seq f.body.value in
    c.tag_of_two.ensures
    ∙ ap₂ (λ (h b : List ℕ). hmac_of key (h ++ b)) c.head.ensures (c.as_slice.ensures ∙ c.deref.ensures)
    ∙ ap (hmac_of key) (sym (front_of_tagged f.key.value front) ∙ ap tagged_front c.self.view_is)
