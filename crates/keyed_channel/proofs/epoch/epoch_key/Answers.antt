-- The pieces in turn are the string of the epoch, which isn't 0.
use Rattle.std.proofs.Common.{◌≡◌, ℕ, List, [], ◌∷◌, ◌++◌, sym, ◌∙◌, subst}
use Rattle.sha2.specs.Hashers.{Holds256}
use Rattle.keyed_channel.specs.Hmac.{pad}
use Rattle.keyed_channel.specs.Epochs.{epoch_string}
use Rattle.keyed_channel.proofs.EpochKeys.{later_key}
use Rattle.keyed_channel.proofs.Pieces.{pieces3}
use Rattle.keyed_channel.proofs.epoch.epoch_key.Goals as goal

pub returns : goal.returns
returns c =
    let text = epoch_string c.args.session c.args.epoch in
    let pieces = c.chain_update-text.ensures _ (c.chain_update-2.ensures _ (c.chain_update.ensures _ c.inner.ensures)) in
    let same : 0x58 ∷ [] ++ c.to_be_bytes.result ++ c.to_be_bytes-2.result ≡ text = rw (c.to_be_bytes.ensures, c.to_be_bytes-2.ensures) in
    let whole = pieces3 (pad 0x36 c.args.key.now) (0x58 ∷ []) c.to_be_bytes.result c.to_be_bytes-2.result text same in
    let P : List ℕ → Type 0 = λ m. Holds256 c.chain_update-text.result m in
    c.finished.ensures _ _ (subst P whole pieces) c.outer.ensures ∙ sym (later_key c.args.session c.args.epoch c.args.key.now c.if-epoch-eq0.false)
