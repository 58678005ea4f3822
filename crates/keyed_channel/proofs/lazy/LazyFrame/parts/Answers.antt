use Rattle.std.proofs.Common.{◌≡◌, sym, ◌∙◌, ap}
use Rattle.keyed_channel.specs.Hmac.{hmac_of}
use Rattle.keyed_channel.specs.Frames.{Opening, frame_front, opening_parts}
use Rattle.keyed_channel.proofs.Sealing.{parts_are, length-hmac_of}
use Rattle.keyed_channel.proofs.lazy.LazyFrame.parts.Goals as goal

pub returns : goal.returns
returns c =
    let f = c.self.inside in
    let front = frame_front f.version f.from f.to f.seq f.body.value in
    let are = parts_are f.version f.from f.to f.seq f.body.value (hmac_of f.key.value front) c.self.invariant (length-hmac_of f.key.value front) in
    let said : opening_parts c.args.self.now ≡ record { from = f.from; seq = f.seq; body = f.body.value } =
    ap opening_parts (sym c.self.view_is) ∙ are in
    (sym (ap (λ (o : Opening). o.from) said), sym (ap (λ (o : Opening). o.seq) said), c.as_slice.ensures ∙ c.deref.ensures ∙ sym (ap (λ (o : Opening). o.body) said))
