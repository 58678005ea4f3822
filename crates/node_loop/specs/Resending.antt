-- What comes of an item for the peers of the replicas that are here: acknowledgements, and frames that are sent again.
use Rattle.std.specs.Prelude.{ℕ, zero, suc, ◌+◌, ◌&&◌, Bool, true, false, nat_lt, min, List, [], ◌∷◌, map, filter, sum_by, Option, Some, None, Result, Ok, Err, if◌then◌else◌}
use Rattle.std.specs.List.{flat_map}
use Rattle.ritas_base.specs.declared.event.Event.{Event}
use Rattle.ritas_base.specs.declared.event.Event.TheVariants as events
use Rattle.ritas_base.specs.declared.mode.FrameVersion.{FrameVersion}
use Rattle.ritas_base.specs.declared.mode.FrameVersion.TheVariants.{One, Two, Three}
use Rattle.ritas_base.specs.History.{replicas}
use Rattle.link_resume.specs.declared.kept.Kept.{Kept}
use Rattle.link_resume.specs.Lists.{between, batch, last_seq}
use Rattle.outside.specs.declared.link.LinkItem.{LinkItem}
use Rattle.outside.specs.declared.link.LinkItem.TheVariants as items
use Rattle.keyed_channel.specs.Frames.{Opening, opening}
use Rattle.keyed_channel.specs.Notes.{is_note, noted}
use Rattle.keyed_channel.specs.declared.frame.OpenFault.{OpenFault}
use Rattle.keyed_channel.specs.declared.note.Note.{Note}
use Rattle.keyed_channel.specs.declared.note.Note.TheVariants as notes
use Rattle.ooc_buffers.specs.Lists.{held_bytes}
use Rattle.ritas_core.specs.declared.fault.CoreFault.TheVariants as faults
use Rattle.ritas_core.specs.Rules.{Rules, seat_of}
use Rattle.ritas_core.specs.Parts.{parts}
use Rattle.ritas_core.specs.Machine.{CoreState}
use Rattle.replica.specs.declared.refusal.Refusal.TheVariants as refusals
use Rattle.world_model.specs.declared.seen.Seen.{Seen}
use Rattle.world_model.specs.declared.seen.Seen.TheVariants as seen
use Rattle.world_model.specs.World.{Setting, rules_at, states_of, seen_of}
use Rattle.node_loop.specs.Peers.{Peers, with_mark, with_pending, acknowledged, is_due_of, marked_early, asked_from}
use Rattle.node_loop.specs.declared.peers.Mark.{Mark}
use Rattle.node_loop.specs.declared.output.Part.{Part}
use Rattle.node_loop.specs.declared.output.Part.TheVariants as parts_are
use Rattle.node_loop.specs.declared.peers.Pair.{Pair}
use Rattle.node_loop.specs.declared.peers.Pending.{Pending}
use Rattle.node_loop.specs.Deeds.{Deed, Resent, Acked, Wished}

-- what comes of an item or a turn for peers: what goes out after the frames of the call and before its replies, in order, and
-- what is kept and who is marked then
pub record Brought : Type 0 where
  pub deeds : List Deed
  pub peers : Peers

abbrev pub nothing_more : Peers → Brought
nothing_more p = record { deeds = []; peers = p }

-- ---- how far a replica is

-- its completed rounds and all its bases
abbrev pub replica_progress : Rules → CoreState → ℕ → ℕ
replica_progress r st n = let words = (parts r st.history).words in
    r.service.completed (seat_of r) words + sum_by (λ o. r.service.base (seat_of r) words o) (replicas n)

-- where replica i stands after these events, and what it holds for j
abbrev pub mark_at : Setting → List Event → ℕ → ℕ → Mark
mark_at w es i j = record { progress = replica_progress (rules_at w i) (states_of w es i) w.numbers.n; held = held_bytes (states_of w es i).held j }

-- ---- a frame

-- a frame that was answered so is to come again
abbrev pub is_deferred : Seen → Bool
is_deferred (seen.Refused (refusals.Core (faults.Ahead x))) = true
is_deferred (seen.Refused (refusals.Core (faults.HeldFull x))) = true
is_deferred (seen.Refused (refusals.Core faults.Mem)) = true
is_deferred (seen.Refused (refusals.Core faults.Stopped)) = true
is_deferred _ = false

-- what opens is acknowledged, or its sender is marked; the mark is of where the call leaves the replica
abbrev pub opened_so : Setting → List Event → ℕ → List ℕ → Peers → Result Opening OpenFault → Brought
opened_so w es i bytes p (Err fault) = nothing_more p
opened_so w es i bytes p (Ok o) = if is_deferred (seen_of w es (events.Frame i bytes))
    then nothing_more (marked_early i o.from o.seq (mark_at w (events.Frame i bytes ∷ es) i o.from) p)
    else record { deeds = Acked i o.from o.seq ∷ []; peers = p }

-- ---- what goes out again

-- all that is kept for a peer, or a batch of it, of at most so many bytes: the one at the front of the frames behind a number, if there is one, up
-- to the last one
abbrev pub part_of : Part → List Kept → List Kept
part_of parts_are.All kept = kept
part_of (parts_are.Batch after last most) kept = batch most (between after last kept)

-- such a part of what is kept for a peer is sent again
abbrev pub resends : ℕ → ℕ → Part → Peers → Brought
resends i j part p = record { deeds = map (λ k. Resent i j k.frame) (part_of part (p.keeping i j)); peers = p }

-- the number of the newest frame; 0 where there is none
abbrev pub newest_in : List Kept → ℕ
newest_in kept = last_seq 0 kept

-- a batch has at most so many bytes, or one frame
abbrev pub most_batch_bytes : ℕ
most_batch_bytes = 4096

-- each may have so many bytes more than the one before, and one to a peer that has a connection begins with so many
abbrev pub batch_step : ℕ
batch_step = 1024

-- the most bytes of the batch that follows one
abbrev pub grown : ℕ → ℕ
grown most = min (most + batch_step) most_batch_bytes

-- how far it went with this batch, of the frames behind a number, if there is one, up to a last one, and the most bytes of the next; nowhere where it
-- has no frame
abbrev pub reached : Option ℕ → ℕ → ℕ → List Kept → Option Pending
reached after end most [] = None
reached after end most (k ∷ ks) = Some (record { after = after; last = last_seq k.seq ks; end = end; most = most })

-- a batch is sent again, of the frames behind a number, if there is one, up to a last one; once all of it is acknowledged the next one follows
abbrev pub sends_batch : ℕ → ℕ → Option ℕ → ℕ → ℕ → Peers → Brought
sends_batch i j after end most p =
    resends i j (parts_are.Batch after end most) (with_pending i j (reached after end (grown most) (batch most (between after end (p.keeping i j)))) p)

-- ---- a note, and a connection

abbrev pub has_none : List Kept → Bool
has_none [] = true
has_none (k ∷ ks) = false

-- where all of the newest batch is acknowledged, the next one follows
abbrev pub goes_on : ℕ → ℕ → Option Pending → Peers → Brought
goes_on i j None p = nothing_more p
goes_on i j (Some pending) p = if has_none (between pending.after pending.last (p.keeping i j))
    then sends_batch i j (Some pending.last) pending.end pending.most p
    else nothing_more p

-- replica i is told that j took the frame of a number
abbrev pub acked_so : FrameVersion → ℕ → ℕ → ℕ → Peers → Brought
acked_so One i j seq p = nothing_more (acknowledged i j seq p)
acked_so Two i j seq p = nothing_more (acknowledged i j seq p)
acked_so Three i j seq p = goes_on i j (p.pending i j) (acknowledged i j seq p)

-- the number before this one, if there is one
abbrev pub before : ℕ → Option ℕ
before zero = None
before (suc seq) = Some seq

-- what is kept for j goes out again from a number on, up to the newest: first a single frame
abbrev pub begins_at : ℕ → ℕ → ℕ → Peers → Brought
begins_at i j seq p = sends_batch i j (before seq) (newest_in (p.keeping i j)) 0 p

-- where batches go out that will come to this number, nothing goes out beside them, and they are to go on up to the newest frame
abbrev pub begins_unless : ℕ → ℕ → ℕ → Option Pending → Peers → Brought
begins_unless i j seq None p = begins_at i j seq p
begins_unless i j seq (Some pending) p = if nat_lt pending.last seq
    then nothing_more (with_pending i j (Some (record pending { end = newest_in (p.keeping i j) })) p)
    else begins_at i j seq p

-- replica i is asked by j to send again, from a number on
abbrev pub asked_so : FrameVersion → ℕ → ℕ → ℕ → Peers → Brought
asked_so One i j seq p = resends i j parts_are.All p
asked_so Two i j seq p = resends i j parts_are.All p
asked_so Three i j seq p = begins_unless i j seq (p.pending i j) p

abbrev pub noted_so : FrameVersion → ℕ → Peers → Option Note → Brought
noted_so version i p None = nothing_more p
noted_so version i p (Some (notes.Ack from seq)) = acked_so version i from seq p
noted_so version i p (Some (notes.Again from seq)) = asked_so version i from seq p

-- a peer has a connection
abbrev pub connected : FrameVersion → ℕ → ℕ → Peers → Brought
connected One i j p = resends i j parts_are.All p
connected Two i j p = resends i j parts_are.All p
connected Three i j p = sends_batch i j None (newest_in (p.keeping i j)) batch_step p

-- ---- an item

-- with what was kept of the frames of its call
abbrev pub item_brings : Setting → List Event → LinkItem → Peers → Brought
item_brings w es (items.Frame to bytes) p = if w.is_correct to
    then (if is_note bytes then noted_so w.mode.version to p (noted (w.keys to) bytes) else opened_so w es to bytes p (opening (w.keys to) bytes))
    else nothing_more p
item_brings w es (items.Up at peer) p = if w.is_correct at && nat_lt peer w.numbers.n then connected w.mode.version at peer p else nothing_more p
item_brings w es (items.Client at conn bytes) p = nothing_more p
item_brings w es (items.Reply from bytes) p = nothing_more p
item_brings w es (items.Down at peer) p = nothing_more p
item_brings w es (items.Left at conn) p = nothing_more p
item_brings w es items.End p = nothing_more p

-- a marked peer is asked, and isn't marked any more
abbrev pub asks_for_more : FrameVersion → ℕ → ℕ → Peers → Brought
asks_for_more version i j p = record { deeds = Wished i j (asked_from version (p.marks i j)) ∷ []; peers = with_mark i j None p }

-- ---- who is to be asked

-- the peers of a replica that are due, in order
abbrev pub peers_due : Setting → List Event → Peers → ℕ → List Pair
peers_due w es p i = map (λ j. record { at = i; peer = j }) (filter (λ j. is_due_of (p.marks i j) (mark_at w es i j)) (replicas w.numbers.n))

-- those that are due, by replica and then by peer
abbrev pub due : Setting → List Event → List ℕ → Peers → List Pair
due w es here p = flat_map (peers_due w es p) here
