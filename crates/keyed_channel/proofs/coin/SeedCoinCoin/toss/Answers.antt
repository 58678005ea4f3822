-- Bit 0 is what is left over 2.
use Rattle.std.proofs.Common.{ℕ, List, ◌%◌, sym, ◌∙◌, ap}
use Rattle.std.specs.Prelude.{◌==◌, slice_index}
use Rattle.std.proofs.lemmas.Nat.Bits.{bit_at_lowest}
use Rattle.keyed_channel.specs.Keyed.{CoinSeed, coin_of}
use Rattle.keyed_channel.proofs.coin.SeedCoinCoin.toss.Goals as goal

pub returns : goal.returns
returns c =
    let slot = c.args.slot.now in
    let same = c.coin_of-coin.ensures ∙ ap (λ (s : CoinSeed). coin_of s slot) c.self.view_is in
    ap (λ (l : List ℕ). slice_index l 0 % 2 == 1) same
    ∙ ap (λ (b : ℕ). b == 1) (sym (bit_at_lowest (slice_index (coin_of c.args.self.now slot) 0)))
