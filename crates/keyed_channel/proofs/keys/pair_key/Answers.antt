-- The pieces in turn are the string of the pair.
use Rattle.std.proofs.Common.{◌≡◌, ℕ, List, [], ◌∷◌, ◌++◌, subst}
use Rattle.sha2.specs.Hashers.{Holds256}
use Rattle.keyed_channel.specs.Hmac.{pad}
use Rattle.keyed_channel.specs.Keyed.{pair_string}
use Rattle.keyed_channel.proofs.Pieces.{pieces3}
use Rattle.keyed_channel.proofs.keys.pair_key.Goals as goal

pub returns : goal.returns
returns c =
    let text = pair_string c.args.session c.args.i c.args.j in
    let both = c.min.result ∷ c.max.result ∷ [] in
    let pieces = c.chain_update-text.ensures _ (c.chain_update-2.ensures _ (c.chain_update.ensures _ c.inner.ensures)) in
    let same : 0x4b ∷ [] ++ c.to_be_bytes.result ++ both ≡ text = rw (c.to_be_bytes.ensures, c.min.ensures, c.max.ensures) in
    let whole = pieces3 (pad 0x36 c.args.master.now) (0x4b ∷ []) c.to_be_bytes.result both text same in
    let P : List ℕ → Type 0 = λ m. Holds256 c.chain_update-text.result m in
    c.finished.ensures _ _ (subst P whole pieces) c.outer.ensures
