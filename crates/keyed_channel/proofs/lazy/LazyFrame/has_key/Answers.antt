use Rattle.std.proofs.Common.{List, ℕ, sym, ◌∙◌, ap}
use Rattle.std.proofs.lemmas.Slice.Eq.{bytes_eq-Decides}
use Rattle.keyed_channel.specs.Hmac.{hmac_of}
use Rattle.keyed_channel.specs.Frames.{frame_front, tagged_front}
use Rattle.keyed_channel.proofs.Lazily.{tag_of_tagged}
use Rattle.keyed_channel.proofs.lazy.LazyFrame.has_key.Goals as goal

pub returns : goal.returns
returns c = λ yes.
    let f = c.self.inside in
    let bytes = c.args.self.now in
    let same = sym c.deref.ensures ∙ (bytes_eq-Decides c.deref.result.now c.args.key.now).0 (sym c.is_same.ensures ∙ yes) in
    sym (tag_of_tagged f.key.value (frame_front f.version f.from f.to f.seq f.body.value) bytes c.self.view_is)
    ∙ ap (λ (key : List ℕ). hmac_of key (tagged_front bytes)) same
