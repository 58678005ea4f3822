-- The frames that a replica makes: each message that becomes due is sealed for each receiver but the replica itself.
use Rattle.std.specs.Prelude.{ℕ, ◌+◌, ◌%◌, ◌^◌, not, ◌==◌, ◌&&◌, List, [], ◌∷◌, ◌++◌, length, filter, map}
use Rattle.std.specs.List.{range_with_len}
use Rattle.ritas_base.specs.declared.item.Msg.{Msg}
use Rattle.ritas_base.specs.Messages.{reaches, item_of}
use Rattle.frame_codec.specs.Body.{spelling}
use Rattle.keyed_channel.specs.KeyRow.{KeyRow}
use Rattle.keyed_channel.specs.Frames.{sealed}
use Rattle.ritas_core.specs.Rules.{Rules}
use Rattle.ritas_core.specs.Parts.{Entry}
use Rattle.ritas_core.specs.Order.{new_messages, sent_to}
use Rattle.replica.specs.Out.{OutFrame}

-- how many frames a replica with this history made for j
abbrev pub count_for : Rules → List Entry → ℕ → ℕ
count_for r [] j = 0
count_for r (e ∷ h) j = count_for r h j + length (sent_to j (new_messages r h e))

-- the body of a message
abbrev pub body_of : ℕ → Msg → List ℕ
body_of me m = spelling (item_of me m)

-- the frame of a message for j, after so many for j
abbrev pub frame_for : KeyRow → ℕ → ℕ → Msg → OutFrame
frame_for k j count m = record { to = j; bytes = sealed k j (count % 2 ^ 64) (body_of k.me m) }

-- the replicas that a message is sealed for: those that it reaches but the sender
abbrev pub receivers : KeyRow → Msg → List ℕ
receivers k m = filter (λ j. reaches m.to j && not (j == k.me)) (range_with_len 0 k.n)

-- the frames of these messages, in their order and for each by receiver, where there were as many for j as counts says
abbrev pub frames_of : KeyRow → (ℕ → ℕ) → List Msg → List OutFrame
frames_of k counts [] = []
frames_of k counts (m ∷ ms) =
    map (λ j. frame_for k j (counts j) m) (receivers k m)
    ++ frames_of k (λ j. counts j + length (sent_to j (m ∷ []))) ms

-- the frames that become due by an entry
abbrev pub new_frames : Rules → KeyRow → List Entry → Entry → List OutFrame
new_frames r k h e = frames_of k (count_for r h) (new_messages r h e)

-- the frames of messages for j, behind those made before, the newest first
abbrev pub sealed_onto : KeyRow → ℕ → List Msg → List (List ℕ) → List (List ℕ)
sealed_onto k j [] frames = frames
sealed_onto k j (m ∷ ms) frames = sealed_onto k j ms (sealed k j (length frames % 2 ^ 64) (body_of k.me m) ∷ frames)

-- the frames that a replica with this history made for j, the newest first
abbrev pub made_for : Rules → KeyRow → List Entry → ℕ → List (List ℕ)
made_for r k [] j = []
made_for r k (e ∷ h) j = sealed_onto k j (sent_to j (new_messages r h e)) (made_for r k h j)
