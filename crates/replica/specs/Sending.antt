-- How many frames a replica has made for each other, kept modulo 2^64.
use Rattle.std.specs.Prelude.{◌≡◌, ℕ, ◌+◌, ◌<◌, ◌%◌, ◌^◌, List, ◌++◌, length, slice_index, if◌then◌else◌}
use Rattle.ritas_base.specs.declared.item.To.{To}
use Rattle.ritas_base.specs.declared.item.Msg.{Msg}
use Rattle.ritas_base.specs.Messages.{reaches}
use Rattle.keyed_channel.specs.KeyRow.{KeyRow}
use Rattle.ritas_core.specs.Order.{sent_to}
use Rattle.replica.specs.Out.{OutFrame}
use Rattle.replica.specs.Frames.{frames_of}

-- the number for each of n replicas is the count for it, modulo 2^64
pub record AreCounts (n : ℕ) (xs : List ℕ) (count : ℕ → ℕ) : Type 0 where
  pub each : (j : ℕ) → j < n → slice_index xs j ≡ count j % 2 ^ 64

-- one more, modulo 2^64, where a message for these receivers comes to j
abbrev pub raised_at : To → ℕ → ℕ → ℕ
raised_at to j x = if reaches to j then (x + 1) % 2 ^ 64 else x

-- the counts with these messages
abbrev pub counts_with : (ℕ → ℕ) → List Msg → ℕ → ℕ
counts_with count ms j = count j + length (sent_to j ms)

-- the frames of these messages are made, and counted
pub record Sends (k : KeyRow) (count : ℕ → ℕ) (ms : List Msg) (xs : List ℕ) (before after : List OutFrame) : Type 0 where
  pub frames : after ≡ before ++ frames_of k count ms
  pub counts : AreCounts k.n xs (counts_with count ms)
