-- The hashed key at a place is the key at that place of the row.
use Rattle.std.proofs.Common.{ℕ, List, ◌<◌, ◌≤◌, ◌∙◌, ap, length, arith}
use Rattle.std.proofs.lemmas.List.{length-take, length-map}
use Rattle.keyed_channel.specs.Hmac.{hmac_of}
use Rattle.keyed_channel.specs.KeyRow.{KeyRow, key_with}
use Rattle.keyed_channel.proofs.KeyRows.{key_hashed}
use Rattle.keyed_channel.proofs.channel.Channel.tag.Goals as goal

pub index-requires : goal.index-requires
index-requires c =
    let keys = c.self.inside.keys in
    let lt : c.args.j < keys.n = omega (arith, ap (λ (k : KeyRow). k.n) c.self.view_is, c.requires) in
    let within : keys.n ≤ length keys.row = omega (arith, c.self.invariant.1.most, c.self.invariant.1.places) in
    omega (arith, c.self.inside.hashed.ok.0, ap length c.self.invariant.0, length-take keys.n keys.row, length-map c.self.inside.hashed.items (λ key. key.value))

pub returns : goal.returns
returns c =
    let keys = c.self.inside.keys in
    let lt : c.args.j < keys.n = omega (arith, ap (λ (k : KeyRow). k.n) c.self.view_is, c.requires) in
    let within : keys.n ≤ length keys.row = omega (arith, c.self.invariant.1.most, c.self.invariant.1.places) in
    let key = key_hashed (λ key. key.value) keys.row c.self.inside.hashed.items keys.n c.args.j c.index.result.now c.self.invariant.0 lt within c.index.ensures in
    c.tag.ensures ∙ ap (λ (k : List ℕ). hmac_of k c.args.text.now) (c.deref.ensures ∙ key ∙ ap (λ (k : KeyRow). key_with k c.args.j) c.self.view_is)
