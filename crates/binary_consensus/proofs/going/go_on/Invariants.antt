use Rattle.std.proofs.Common.{◌≡◌, ◌<◌, ℕ, suc, List, ◌∷◌}
use Rattle.layer_api.specs.Words.{Word}
use Rattle.layer_api.specs.Binary.{Bench}
use Rattle.layer_api.specs.Calls.{IsCoin}
use Rattle.binary_consensus.specs.Consensus.{decided_below}
use Rattle.binary_consensus.specs.Going.{IsBinaryPart, AreRowsHeard, Passing, Gone}
use Rattle.binary_consensus.proofs.going.go_on.Given as goal

abbrev pub invariant-loop-t : goal.invariant-loop-t
invariant-loop-t g l = record {
  below : l.t < 600;
  gone : (at : Bench) (c : Word) (w : List Word) (start : ℕ) → IsBinaryPart l.part l.line.numbers at → IsCoin at.coin (g.C.Coin.bits l.coin)
      → AreRowsHeard at l.line.rows (c ∷ w) → l.fn.place.said ≡ suc start → start < 600 → Passing at start c w
      → l.initial.decided ≡ decided_below at start (c ∷ w)
      → Gone at start l.t l.initial.says.items l.says.items l.decided c w;
}
