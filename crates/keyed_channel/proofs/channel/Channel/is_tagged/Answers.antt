-- The hashed key at the sender's place is the key that is shared with it.
use Rattle.std.proofs.Common.{◌≡◌, ℕ, List, ◌<◌, ◌≤◌, sym, ◌∙◌, ap, ap₂, length, arith}
use Rattle.std.specs.Str.{bytes_eq}
use Rattle.std.proofs.lemmas.List.{length-take, length-map}
use Rattle.std.proofs.lemmas.Slice.Eq.{bytes_eq-Decides}
use Rattle.keyed_channel.specs.Hmac.{hmac_of}
use Rattle.keyed_channel.specs.KeyRow.{KeyRow, key_with}
use Rattle.keyed_channel.specs.Frames.{sender_of, tagged_front, tag_of}
use Rattle.keyed_channel.proofs.KeyRows.{key_hashed}
use Rattle.keyed_channel.proofs.channel.Channel.is_tagged.Goals as goal

pub index-key-requires : goal.index-key-requires
index-key-requires c =
    let keys = c.self.inside.keys in
    let lt : c.parts.result.from < keys.n = omega (arith, c.parts.ensures.0, ap (λ (k : KeyRow). k.n) c.self.view_is, c.requires) in
    let within : keys.n ≤ length keys.row = omega (arith, c.self.invariant.1.most, c.self.invariant.1.places) in
    omega (arith, c.self.inside.hashed.ok.0, ap length c.self.invariant.0, length-take keys.n keys.row, length-map c.self.inside.hashed.items (λ key. key.value))

pub returns-then-has_key : goal.returns-then-has_key
returns-then-has_key c =
    let keys = c.self.inside.keys in
    let frame = c.args.frame.now in
    let lt : c.parts.result.from < keys.n = omega (arith, c.parts.ensures.0, ap (λ (k : KeyRow). k.n) c.self.view_is, c.requires) in
    let within : keys.n ≤ length keys.row = omega (arith, c.self.invariant.1.most, c.self.invariant.1.places) in
    let key = key_hashed (λ key. key.value) keys.row c.self.inside.hashed.items keys.n c.parts.result.from c.index-key.result.now c.self.invariant.0 lt within c.index-key.ensures in
    let wanted = c.deref.ensures ∙ key ∙ ap₂ (λ (k : KeyRow) (j : ℕ). key_with k j) c.self.view_is c.parts.ensures.0 in
    let right : hmac_of (key_with c.args.self.now (sender_of frame)) (tagged_front frame) ≡ tag_of frame =
    ap (λ (k : List ℕ). hmac_of k (tagged_front frame)) (sym wanted) ∙ sym (c.has_key.ensures c.if-has_key.true) in
    c.if-has_key.true ∙ sym ((bytes_eq-Decides (hmac_of (key_with c.args.self.now (sender_of frame)) (tagged_front frame)) (tag_of frame)).1 right)

pub returns-else-has_key : goal.returns-else-has_key
returns-else-has_key c =
    let keys = c.self.inside.keys in
    let frame = c.args.frame.now in
    let lt : c.parts.result.from < keys.n = omega (arith, c.parts.ensures.0, ap (λ (k : KeyRow). k.n) c.self.view_is, c.requires) in
    let within : keys.n ≤ length keys.row = omega (arith, c.self.invariant.1.most, c.self.invariant.1.places) in
    let key = key_hashed (λ key. key.value) keys.row c.self.inside.hashed.items keys.n c.parts.result.from c.index-key.result.now c.self.invariant.0 lt within c.index-key.ensures in
    let wanted = c.deref-else-has_key.ensures ∙ key ∙ ap₂ (λ (k : KeyRow) (j : ℕ). key_with k j) c.self.view_is c.parts.ensures.0 in
    c.eq.ensures ∙ ap₂ bytes_eq (c.tag_under.ensures ∙ ap (λ (k : List ℕ). hmac_of k (tagged_front frame)) wanted) c.tag.ensures
