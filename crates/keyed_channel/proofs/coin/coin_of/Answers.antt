-- The pieces in turn are the string of the slot.
use Rattle.std.proofs.Common.{◌≡◌, ℕ, List, [], ◌∷◌, ◌++◌, subst}
use Rattle.sha2.specs.Hashers.{Holds256}
use Rattle.keyed_channel.specs.Hmac.{pad}
use Rattle.keyed_channel.specs.Keyed.{coin_string}
use Rattle.keyed_channel.proofs.Pieces.{pieces3}
use Rattle.keyed_channel.proofs.coin.coin_of.Goals as goal

pub returns : goal.returns
returns c =
    let text = coin_string c.args.session c.args.slot.now in
    let pieces = c.chain_update-text.ensures _ (c.chain_update-2.ensures _ (c.chain_update.ensures _ c.inner.ensures)) in
    let same : 0x43 ∷ [] ++ c.to_be_bytes.result ++ c.bytes.result ≡ text = rw (c.to_be_bytes.ensures, c.bytes.ensures) in
    let whole = pieces3 (pad 0x36 c.args.key.now) (0x43 ∷ []) c.to_be_bytes.result c.bytes.result text same in
    let P : List ℕ → Type 0 = λ m. Holds256 c.chain_update-text.result m in
    c.finished.ensures _ _ (subst P whole pieces) c.outer.ensures
