-- Worked rows of what is kept for a peer and sent again, on frames of a few bytes.
use Rattle.std.specs.Prelude.{◌≡◌, ◌+◌, [], ◌∷◌, Some, None, true, false, refl}
use Rattle.ritas_base.specs.declared.mode.FrameVersion.TheVariants.{One, Two, Three}
use Rattle.world_model.specs.MadeOrder.{MadeFrame}
use Rattle.keyed_channel.specs.declared.note.Note.TheVariants.{Ack, Again}
use Rattle.node_loop.specs.Peers.{Peers, no_peers, keep_all, with_pending, has_come_further, early_with, asked_from}
use Rattle.node_loop.specs.declared.peers.Mark.{Mark}
use Rattle.node_loop.specs.Deeds.{Resent}
use Rattle.node_loop.specs.Resending.{connected, grown, noted_so}
use Rattle.link_resume.specs.Lists.{may_have}
use Rattle.node_loop.specs.Serving.{most_kept_in_all, overflow_or, Overflows, Asks}

-- two frames of replica 0 for 1, with the numbers 0 and 1, of as many bytes as show their numbers
abbrev zero : MadeFrame
zero = record { event = 0; from = 0; to = 1; bytes = 1 ∷ 0 ∷ 1 ∷ 0 ∷ 0 ∷ 0 ∷ 0 ∷ 0 ∷ 0 ∷ 0 ∷ 0 ∷ 7 ∷ [] }

abbrev one : MadeFrame
one = record { event = 1; from = 0; to = 1; bytes = 1 ∷ 0 ∷ 1 ∷ 0 ∷ 0 ∷ 0 ∷ 0 ∷ 0 ∷ 0 ∷ 0 ∷ 1 ∷ 8 ∷ [] }

abbrev kept_both : Peers
kept_both = keep_all Two (zero ∷ one ∷ []) no_peers

-- both are kept under their numbers, for 1 alone
kept_row : (kept_both.keeping 0 1 ≡ record { seq = 0; frame = zero.bytes } ∷ record { seq = 1; frame = one.bytes } ∷ [])
    × (kept_both.keeping 0 2 ≡ []) × (kept_both.keeping 1 0 ≡ [])
kept_row = (refl, refl, refl)

-- when 1 has a connection again, both go out again, the oldest first
up_rows : ((connected One 0 1 kept_both).deeds ≡ Resent 0 1 zero.bytes ∷ Resent 0 1 one.bytes ∷ [])
    × ((connected Two 0 1 kept_both).deeds ≡ Resent 0 1 zero.bytes ∷ Resent 0 1 one.bytes ∷ [])
up_rows = (refl, refl)

-- when it asks for what it didn't take, they do too
again_row : (noted_so Two 0 kept_both (Some (Again 1 0))).deeds ≡ Resent 0 1 zero.bytes ∷ Resent 0 1 one.bytes ∷ []
again_row = refl

-- what it acknowledged doesn't; another's acknowledgement, one of another number and what is no note change nothing
ack_rows : ((noted_so Two 0 kept_both (Some (Ack 1 0))).peers.keeping 0 1 ≡ record { seq = 1; frame = one.bytes } ∷ [])
    × ((noted_so Two 0 kept_both (Some (Ack 2 0))).peers.keeping 0 1 ≡ kept_both.keeping 0 1)
    × ((noted_so Two 0 kept_both (Some (Ack 1 2))).peers.keeping 0 1 ≡ kept_both.keeping 0 1)
    × ((noted_so Two 0 kept_both None).peers.keeping 0 1 ≡ kept_both.keeping 0 1)
ack_rows = (refl, refl, refl, refl)

-- ---- version 3

abbrev at_three : Mark
at_three = record { progress = 3; held = 50 }

abbrev at_four : Mark
at_four = record { progress = 4; held = 50 }

-- a third frame, of number 2
abbrev two : MadeFrame
two = record { event = 2; from = 0; to = 1; bytes = 3 ∷ 0 ∷ 1 ∷ 0 ∷ 0 ∷ 0 ∷ 0 ∷ 0 ∷ 0 ∷ 0 ∷ 2 ∷ 9 ∷ [] }

abbrev kept_three : Peers
kept_three = keep_all Three (zero ∷ one ∷ two ∷ []) no_peers

-- a connection brings a batch, here of all three, and how far it went is noted
connected_rows : ((connected Three 0 1 kept_three).deeds ≡ Resent 0 1 zero.bytes ∷ Resent 0 1 one.bytes ∷ Resent 0 1 two.bytes ∷ [])
    × ((connected Three 0 1 kept_three).peers.pending 0 1 ≡ Some (record { after = None; last = 2; end = 2; most = 2048 }))
    × ((connected Three 0 2 kept_three).peers.pending 0 2 ≡ None)
connected_rows = (refl, refl, refl)

-- where the newest batch has number 0 alone, and those up to 1 are to go out
abbrev under_way : Peers
under_way = with_pending 0 1 (Some (record { after = None; last = 0; end = 1; most = 1024 })) kept_three

-- with the acknowledgement of that the next batch goes out, up to the end and no further; with another's number nothing does
next_rows : ((noted_so Three 0 under_way (Some (Ack 1 0))).deeds ≡ Resent 0 1 one.bytes ∷ [])
    × ((noted_so Three 0 under_way (Some (Ack 1 0))).peers.pending 0 1 ≡ Some (record { after = Some 0; last = 1; end = 1; most = 2048 }))
    × ((noted_so Three 0 under_way (Some (Ack 1 1))).deeds ≡ [])
    × ((noted_so Three 0 under_way (Some (Ack 1 1))).peers.pending 0 1 ≡ Some (record { after = None; last = 0; end = 1; most = 1024 }))
    × ((noted_so Two 0 under_way (Some (Ack 1 0))).deeds ≡ [])
next_rows = (refl, refl, refl, refl, refl)

-- a batch of two frames, behind number 0, of which both are kept
abbrev two_under_way : Peers
two_under_way = with_pending 0 1 (Some (record { after = Some 0; last = 2; end = 2; most = 3072 })) kept_three

-- with the acknowledgement of its last frame alone nothing goes out, and once all of it is acknowledged the rest does: here there is none, and it is over
over_rows : ((noted_so Three 0 two_under_way (Some (Ack 1 2))).deeds ≡ [])
    × ((noted_so Three 0 two_under_way (Some (Ack 1 2))).peers.pending 0 1 ≡ two_under_way.pending 0 1)
    × ((noted_so Three 0 (noted_so Three 0 two_under_way (Some (Ack 1 2))).peers (Some (Ack 1 1))).deeds ≡ [])
    × ((noted_so Three 0 (noted_so Three 0 two_under_way (Some (Ack 1 2))).peers (Some (Ack 1 1))).peers.pending 0 1 ≡ None)
over_rows = (refl, refl, refl, refl)

-- each batch may have some more bytes than the one before
grown_rows : (grown 0 ≡ 1024) × (grown 1024 ≡ 2048) × (grown 3072 ≡ 4096) × (grown 4096 ≡ 4096)
grown_rows = (refl, refl, refl, refl)

-- a note that asks again from a number on brings one frame, and with its acknowledgement those behind it go out, up to the newest
again_rows : ((noted_so Three 0 kept_three (Some (Again 1 1))).deeds ≡ Resent 0 1 one.bytes ∷ [])
    × ((noted_so Three 0 kept_three (Some (Again 1 1))).peers.pending 0 1 ≡ Some (record { after = Some 0; last = 1; end = 2; most = 1024 }))
    × ((noted_so Three 0 under_way (Some (Again 1 0))).deeds ≡ Resent 0 1 zero.bytes ∷ [])
    × ((noted_so Three 0 under_way (Some (Again 1 0))).peers.pending 0 1 ≡ Some (record { after = None; last = 0; end = 2; most = 1024 }))
    × ((noted_so Three 0 kept_three (Some (Again 1 3))).deeds ≡ [])
again_rows = (refl, refl, refl, refl, refl)

-- where batches are under way that will come to that number none goes out beside them, but they go on up to the newest
again_later_rows : ((noted_so Three 0 under_way (Some (Again 1 1))).deeds ≡ [])
    × ((noted_so Three 0 under_way (Some (Again 1 1))).peers.pending 0 1 ≡ Some (record { after = None; last = 0; end = 2; most = 1024 }))
again_later_rows = (refl, refl)

-- of frames that came too early the least number is asked for in version 3, and in the others all are
early_rows : (asked_from Three (Some (early_with (Some (early_with None at_three 7)) at_three 5)) ≡ 5)
    × (asked_from Three (Some (early_with (Some (early_with None at_three 5)) at_four 7)) ≡ 5)
    × (early_with (Some (early_with None at_three 5)) at_four 7 ≡ record { mark = at_four; least = 5 })
    × (asked_from One (Some (early_with None at_three 7)) ≡ 0) × (asked_from Two (Some (early_with None at_three 7)) ≡ 0)
early_rows = (refl, refl, refl, refl, refl)

-- a marked peer is asked when fewer bytes are held for it, or when the replica has come further
due_rows : (has_come_further (record { progress = 3; held = 50 }) (record { progress = 3; held = 50 }) ≡ false)
    × (has_come_further (record { progress = 3; held = 50 }) (record { progress = 3; held = 49 }) ≡ true)
    × (has_come_further (record { progress = 3; held = 50 }) (record { progress = 4; held = 90 }) ≡ true)
    × (has_come_further (record { progress = 3; held = 50 }) (record { progress = 3; held = 90 }) ≡ false)
due_rows = (refl, refl, refl, refl)

-- in version 3 serving ends where more than 536,870,912 bytes are kept for all peers of a replica, and in the others it doesn't
most_rows : (most_kept_in_all One ≡ None) × (most_kept_in_all Two ≡ None) × (may_have (most_kept_in_all Three) 536870912 ≡ true)
    × (may_have (most_kept_in_all Three) 536870913 ≡ false) × (may_have (most_kept_in_all Two) 536870913 ≡ true)
most_rows = (refl, refl, refl, refl, refl)

-- it tells the bytes of the first such replica, and goes on where there is none
overflow_rows : (overflow_or (λ i. i + 600000000) (1 ∷ 3 ∷ []) Asks ≡ Overflows 600000001) × (overflow_or (λ i. i + 600000000) [] Asks ≡ Asks)
overflow_rows = (refl, refl)
