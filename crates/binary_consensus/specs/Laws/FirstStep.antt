-- A bit that is decided was said by a correct replica at its first step; and the law of one bit.
use Rattle.std.specs.Prelude.{◌≡◌, ℕ, Bool, true, List, [], ◌∷◌, Some}
use Rattle.std.proofs.Common.{arith}
use Rattle.ritas_base.specs.declared.slot.Slot.{Slot}
use Rattle.ritas_base.specs.Numbers.{Numbers}
use Rattle.layer_api.specs.Runs.{ReplicaStep, calls_of, IsEnough}
use Rattle.layer_api.specs.Words.{Word, bit_byte}
use Rattle.layer_api.specs.Fed.{IsFedRun}
use Rattle.layer_api.specs.Service.{OfBit}
use Rattle.layer_api.specs.Proposals.{SaidProposal, SomeProposed}
use Rattle.layer_api.specs.Binary.{bench_at, binary_play, OneBit}
use Rattle.binary_consensus.specs.Consensus.{binary_decision, binary}
use Rattle.binary_consensus.specs.Laws.Box.{put_out}
use Rattle.binary_consensus.specs.Laws.OneBit.{agree, valid_vote, valid}
use Rattle.binary_consensus.specs.Laws.Stays.{steps_are}

said_first : (p : Numbers) (a attempt : ℕ) (is_correct : ℕ → Bool) (coins : ℕ → Slot → Bool) (xs : List (ReplicaStep Word))
    → IsEnough p is_correct → IsFedRun (binary_play binary p a attempt coins) is_correct xs
    → (i : ℕ) (b : Bool) → is_correct i ≡ true → binary_decision (bench_at p a attempt coins i) (calls_of i xs) ≡ Some b
    → SomeProposed is_correct (SaidProposal (binary_play binary p a attempt coins) xs) (OfBit a attempt) (bit_byte b ∷ [])
said_first p a attempt is_correct coins xs enough fed i b ci q =
    let k = valid_vote p a attempt is_correct coins xs enough fed i b ci q in
    let e = steps_are in
    (k.0, k.1, put_out (bench_at p a attempt coins k.0) 0 (calls_of k.0 xs) (bit_byte b) (omega (arith, e)) k.2)

pub one_bit_law : OneBit binary
one_bit_law = record {
  agree = λ p a attempt is_correct coins xs enough fed. agree p a attempt is_correct coins xs enough fed;
  valid = λ p a attempt is_correct coins xs enough fed. valid p a attempt is_correct coins xs enough fed;
  proposed = λ p a attempt is_correct coins xs enough fed. said_first p a attempt is_correct coins xs enough fed;
}
