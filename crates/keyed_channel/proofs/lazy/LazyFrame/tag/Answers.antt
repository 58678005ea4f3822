use Rattle.std.proofs.Common.{List, ℕ, ◌∙◌, ap}
use Rattle.keyed_channel.specs.Hmac.{hmac_of}
use Rattle.keyed_channel.specs.Frames.{frame_front, tagged_front}
use Rattle.keyed_channel.proofs.Lazily.{tag_of_tagged}
use Rattle.keyed_channel.proofs.lazy.LazyFrame.tag.Goals as goal

pub returns : goal.returns
returns c =
    let f = c.self.inside in
    let bytes = c.args.self.now in
    c.tag_under.ensures
    ∙ ap (λ (key : List ℕ). hmac_of key (tagged_front bytes)) c.deref.ensures
    ∙ tag_of_tagged f.key.value (frame_front f.version f.from f.to f.seq f.body.value) bytes c.self.view_is
