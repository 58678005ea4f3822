-- Worked rows: what an event is to a replica, which fault an audit names, what is hashed, what two things hashed are alike in,
-- which logs of commands agree, and counts.
use Rattle.std.specs.Prelude.{◌≡◌, ℕ, true, false, nat_lt, ◌==◌, ◌&&◌, List, [], ◌∷◌, length, Option, Some, None, refl}
use Rattle.sha2.specs.Sha256.{sha256}
use Rattle.std.proofs.Common.{lit≤, ap, inl, arith}
use Rattle.ritas_base.specs.Slots.{command_slot, by_echo, form_of}
use Rattle.ritas_base.specs.declared.event.Event.{Event}
use Rattle.ritas_base.specs.declared.event.Event.TheVariants as events
use Rattle.ritas_base.specs.declared.id.Id.{Id}
use Rattle.ritas_base.specs.declared.item.Item.{Item}
use Rattle.ritas_base.specs.declared.item.Kind.{Kind}
use Rattle.ritas_base.specs.declared.item.Kind.TheVariants.{Init, Echo, Ready, Send, Value}
use Rattle.ritas_base.specs.declared.mode.Mode.{Mode}
use Rattle.ritas_base.specs.declared.mode.FrameVersion.{FrameVersion}
use Rattle.ritas_base.specs.declared.mode.Vect.TheVariants.{Reliable}
use Rattle.ritas_base.specs.declared.mode.FrameVersion.TheVariants.{One, Two, Three}
use Rattle.layer_api.specs.Entries.{EntryInput, OfMessage, OfEntry}
use Rattle.layer_api.specs.Service.{ServiceRules, Carries, Undecided, IsPart}
use Rattle.command_log.specs.Rows.{count_origins, Row, alone, command_rows}
use Rattle.keyed_channel.specs.Frames.{sealed}
use Rattle.keyed_channel.specs.declared.frame.OpenFault.TheVariants.{Short}
use Rattle.reliable_bcast.specs.Bracha.{bracha}
use Rattle.ritas_core.specs.declared.answer.Answer.TheVariants as answers
use Rattle.ritas_core.specs.declared.fault.CoreFault.TheVariants as faults
use Rattle.ritas_core.specs.Machine.{CoreState}
use Rattle.ritas_core.specs.Parts.{Took, Given}
use Rattle.ritas_core.specs.Rules.{Rules}
use Rattle.replica.specs.Out.{OutFrame}
use Rattle.replica.specs.declared.refusal.Refusal.TheVariants as refusals
use Rattle.replica.specs.Handling.{Frame, Turn}
use Rattle.world_model.specs.declared.audit.Audit.TheVariants as audits
use Rattle.world_model.specs.declared.seen.Seen.TheVariants as seen_as
use Rattle.world_model.specs.World.{Setting, rules_at, call_of, states_of, seen_of}
use Rattle.world_model.specs.Watch.{is_watched_start}
use Rattle.world_model.specs.Audit.{newest_item, prints_in, clashes, broken_by, judged, has_too_many, audit_of}
use Rattle.world_model.specs.OneValueEach.{input_at}
use Rattle.world_model.specs.Agree.{OneIsPart}
use Rattle.world_model.specs.Counts.{no_counts, counted_event}
use Rattle.world_model.specs.FramesMade.{MadeTable, made_in, made_at, with_frames}

-- ---- a world of four replicas, of which the first few are correct; replica 1 is stopped before event 0

abbrev pub silent : ServiceRules
silent = record {
  serves = λ root. true;
  purpose = Carries;
  says = λ seat w c. [];
  opens = λ seat w s. true;
  completed = λ seat w. 0;
  base = λ seat w origin. 0;
  next_number = λ seat w. 0;
  given = λ seat w. false;
  done = λ seat w. [];
  outcome = λ seat w. Undecided;
  last = λ seat w. None;
  decided = λ seat w x. None;
}

abbrev pub world_of : ℕ → Setting
world_of right = record {
  numbers = record { n = 4; f = 1 };
  mode = record { root = 1; vect = Reliable; version = One; low = lit≤ tt; high = lit≤ tt };
  is_correct = λ i. nat_lt i right;
  at_slot = λ s. bracha;
  service = silent;
  coin = λ i s. false;
  keys = λ i. record { session = 5; n = 4; me = i; row = []; version = One };
  stops = λ k i. k == 0 && i == 1;
  start = alone;
}

-- ---- what an event is to a replica

-- one at a faulty replica is nothing to any
faulty_turn : (states : ℕ → CoreState) → call_of (world_of 3) states (events.Turn 3) ≡ None
faulty_turn states = refl

correct_turn : (states : ℕ → CoreState) → call_of (world_of 3) states (events.Turn 2) ≡ Some (record { at = 2; call = Turn })
correct_turn states = refl

-- a body is sealed with the sender's keys, for the receiver, and with the number 0
sealed_frame : (states : ℕ → CoreState) → call_of (world_of 3) states (events.Sealed 3 0 (7 ∷ []))
    ≡ Some (record { at = 0; call = Frame (sealed (record { session = 5; n = 4; me = 3; row = []; version = One }) 0 0 (7 ∷ [])) })
sealed_frame states = refl

-- a faulty replica made no frames, and a correct one none yet
faulty_pass : (states : ℕ → CoreState) → call_of (world_of 3) states (events.Pass 3 0 0) ≡ None
faulty_pass states = refl

early_pass : call_of (world_of 3) (states_of (world_of 3) []) (events.Pass 0 2 0) ≡ None
unfolding states_of
early_pass = refl

-- ---- what became of an event

missed : seen_of (world_of 3) [] (events.Turn 3) ≡ seen_as.Missed
missed = refl

idle : seen_of (world_of 3) [] (events.Turn 0) ≡ seen_as.Answered answers.Idle
unfolding states_of
idle = refl

-- replica 1 is stopped by then, and the others aren't
halted : seen_of (world_of 3) [] (events.Turn 1) ≡ seen_as.Refused (refusals.Core faults.Stopped)
unfolding states_of
halted = refl

-- ---- the audit

-- one of four may be faulty, and not two, whatever happens
one_faulty : has_too_many (world_of 3) ≡ false
one_faulty = refl

two_faulty : (es : List Event) → audit_of (world_of 2) es ≡ audits.TooManyFaulty
two_faulty es = refl

-- an event that forges and collides forges
both : broken_by true true 4 ≡ audits.Forged 4
both = refl

collides : broken_by false true 4 ≡ audits.Collision 4
collides = refl

-- the first event is named, whichever premise it breaks
first_stays : judged (audits.Collision 2) (audits.Forged 5) ≡ audits.Collision 2
first_stays = refl

named : judged audits.Holds (audits.Forged 5) ≡ audits.Forged 5
named = refl

-- two messages of one digest collide, and one with itself doesn't, nor do two with their own
two_messages : clashes (OfMessage (1 ∷ []) (9 ∷ [])) (OfMessage (2 ∷ []) (9 ∷ [])) ≡ true
two_messages = refl

one_message : clashes (OfMessage (1 ∷ []) (9 ∷ [])) (OfMessage (1 ∷ []) (9 ∷ [])) ≡ false
one_message = refl

two_digests : clashes (OfMessage (1 ∷ []) (9 ∷ [])) (OfMessage (2 ∷ []) (8 ∷ [])) ≡ false
two_digests = refl

-- so it is of entries, whose inputs may differ in their verifier alone
abbrev for_verifier : ℕ → EntryInput
for_verifier j = record { slot = command_slot 1 0; echoer = 0; verifier = j; digest = 9 ∷ [] }

two_entries : clashes (OfEntry (for_verifier 2) (7 ∷ [])) (OfEntry (for_verifier 3) (7 ∷ [])) ≡ true
two_entries = refl

one_entry : clashes (OfEntry (for_verifier 2) (7 ∷ [])) (OfEntry (for_verifier 2) (7 ∷ [])) ≡ false
one_entry = refl

-- a message and an entry never do
message_and_entry : clashes (OfMessage (1 ∷ []) (7 ∷ [])) (OfEntry (for_verifier 2) (7 ∷ [])) ≡ false
message_and_entry = refl

-- ---- histories

abbrev init : Item
init = record { from = 2; kind = Init; slot = command_slot 2 0; value = 7 ∷ [] }

-- a call made a replica take an item where its history has one entry more
newly : newest_item [] (Took init ∷ []) ≡ Some init
newly = refl

not_newly : newest_item (Took init ∷ []) (Took init ∷ []) ≡ None
not_newly = refl

no_item : newest_item [] (Given (5 ∷ []) ∷ []) ≡ None
no_item = refl

-- ---- what is hashed

-- replica 0 in root service 1, where commands go by reliable broadcast, and in root service 2, where they go by echo broadcast
abbrev in_mode : Mode → Rules
in_mode mode = rules_at (record (world_of 3) { mode = mode }) 0

abbrev by_reliable : FrameVersion → Rules
by_reliable version = in_mode (record { root = 1; vect = Reliable; version = version; low = lit≤ tt; high = lit≤ tt })

abbrev in_echoes : FrameVersion → Rules
in_echoes version = in_mode (record { root = 2; vect = Reliable; version = version; low = lit≤ tt; high = lit≤ tt })

-- and in root service 3, whose steps of binary consensus go by reliable broadcast
abbrev in_steps : FrameVersion → Rules
in_steps version = in_mode (record { root = 3; vect = Reliable; version = version; low = lit≤ tt; high = lit≤ tt })

-- replica 2's INIT of the bit 1, at the first step
abbrev bit : Item
bit = record { from = 2; kind = Init; slot = record { class = 5; a = 0; attempt = 0; bround = 1; step = 1; origin = 2 }; value = 1 ∷ [] }

abbrev of_kind : Kind → Item
of_kind kind = record init { kind = kind }

-- in version 2 an INIT that was taken is hashed, and in version 1 it isn't
init_hashed : prints_in (by_reliable Two) (Took init ∷ []) ≡ OfMessage (7 ∷ []) (sha256 (7 ∷ [])) ∷ []
unfolding form_of by_echo
init_hashed = refl

init_not_hashed : prints_in (by_reliable One) (Took init ∷ []) ≡ []
unfolding form_of by_echo
init_not_hashed = refl

-- in version 3 it is too, but not the INIT of a step of binary consensus, whose bit goes by values
init_hashed_of_three : prints_in (by_reliable Three) (Took init ∷ []) ≡ OfMessage (7 ∷ []) (sha256 (7 ∷ [])) ∷ []
unfolding form_of by_echo
init_hashed_of_three = refl

bit_hashed : prints_in (in_steps Two) (Took bit ∷ []) ≡ OfMessage (1 ∷ []) (sha256 (1 ∷ [])) ∷ []
unfolding form_of by_echo
bit_hashed = refl

bit_not_hashed : prints_in (in_steps Three) (Took bit ∷ []) ≡ []
unfolding form_of by_echo
bit_not_hashed = refl

-- so the audit looks at a body that begins with INIT and class 1, and not at one with INIT and class 5
starts_watched : (is_watched_start Three 1 1 ≡ true) × (is_watched_start Three 1 5 ≡ false) × (is_watched_start Two 1 5 ≡ true) × (is_watched_start One 1 1 ≡ false)
starts_watched = (refl, refl, refl, refl)

-- so is a VALUE, and an ECHO and a READY carry a digest
value_hashed : prints_in (by_reliable Two) (Took (of_kind Value) ∷ []) ≡ OfMessage (7 ∷ []) (sha256 (7 ∷ [])) ∷ []
unfolding form_of by_echo
value_hashed = refl

votes_not_hashed : prints_in (by_reliable Two) (Took (of_kind Ready) ∷ Took (of_kind Echo) ∷ []) ≡ []
unfolding form_of by_echo
votes_not_hashed = refl

-- of a SEND each entry is hashed too, in every version: replica 0's for each of four, and each one's for replica 0
sends_hashed : (length (prints_in (in_echoes One) (Took (of_kind Send) ∷ [])) ≡ 9) × (length (prints_in (in_echoes Two) (Took (of_kind Send) ∷ [])) ≡ 9)
    × (length (prints_in (in_echoes Three) (Took (of_kind Send) ∷ [])) ≡ 9)
unfolding form_of by_echo
sends_hashed = (refl, refl, refl)

-- ---- inputs

-- they are numbered from the oldest
first_input : input_at (Given (6 ∷ []) ∷ Took init ∷ Given (5 ∷ []) ∷ []) 0 ≡ Some (5 ∷ [])
first_input = refl

second_input : input_at (Given (6 ∷ []) ∷ Took init ∷ Given (5 ∷ []) ∷ []) 1 ≡ Some (6 ∷ [])
second_input = refl

no_third : input_at (Given (6 ∷ []) ∷ Took init ∷ Given (5 ∷ []) ∷ []) 2 ≡ None
no_third = refl

-- ---- logs of commands

-- request 1 of client 7, with the payload 9
abbrev command : List ℕ
command = 0 ∷ 0 ∷ 0 ∷ 7 ∷ 0 ∷ 0 ∷ 0 ∷ 1 ∷ 9 ∷ []

abbrev row_from : ℕ → Row
row_from origin = record { id = record { origin = origin; num = 0 }; client = 7; request = 1; payload = 9 ∷ [] }

-- with f = 1 and the identifiers 3.0, 2.0 and 1.0, oldest first, a log has one row, that of replica 2, which confirmed the command
abbrev by_all : Id → Option (List ℕ)
by_all x = Some command

one_row : command_rows 1 by_all (record { origin = 1; num = 0 } ∷ record { origin = 2; num = 0 } ∷ record { origin = 3; num = 0 } ∷ []) ≡ row_from 2 ∷ []
unfolding count_origins
one_row = refl

-- one log is a prefix of another that has a row more
prefix : OneIsPart (row_from 3 ∷ []) (record (row_from 2) { request = 2 } ∷ row_from 3 ∷ [])
prefix = inl (record (row_from 2) { request = 2 } ∷ [], refl)

-- where one log has the command of replica 2 and another that of replica 3 at a position, neither is a prefix
abbrev newest_origin : List Row → ℕ
newest_origin [] = 0
newest_origin (r ∷ rs) = r.id.origin

not_prefix : IsPart (row_from 2 ∷ []) (row_from 3 ∷ []) → ⊥
not_prefix ([], e) = let wrong : 2 ≡ 3 = ap newest_origin e in omega (arith, wrong)
not_prefix (r ∷ [], e) = cc
not_prefix (r ∷ q ∷ more, e) = cc

-- ---- counts

took : (counted_event (seen_as.Answered answers.Took) no_counts).took ≡ 1
took = refl

open_fault : counted_event (seen_as.Refused (refusals.Open Short)) no_counts ≡ record no_counts { open_faults = 1 }
open_fault = refl

-- ---- frames made, of two replicas

abbrev none_made : MadeTable
none_made = record { n = 2; lists = [] ∷ [] ∷ [] ∷ [] ∷ []; order = [] }

abbrev for_replica : ℕ → ℕ → OutFrame
for_replica to byte = record { to = to; bytes = byte ∷ [] }

-- replica 0 made two in event 3, and then replica 1 one in event 4
abbrev three_made : MadeTable
three_made = with_frames (with_frames none_made 3 0 (for_replica 1 4 ∷ for_replica 1 5 ∷ [])) 4 1 (for_replica 0 6 ∷ [])

-- the oldest stands first, under its sender and its receiver
in_order : made_in three_made 0 1 ≡ (4 ∷ []) ∷ (5 ∷ []) ∷ []
in_order = refl

other_way : made_in three_made 1 0 ≡ (6 ∷ []) ∷ []
other_way = refl

-- they are numbered in the order in which they were made
second_made : made_at three_made 1 ≡ Some (record { event = 3; from = 0; to = 1; bytes = 5 ∷ [] })
second_made = refl

third_made : made_at three_made 2 ≡ Some (record { event = 4; from = 1; to = 0; bytes = 6 ∷ [] })
third_made = refl

no_fourth : made_at three_made 3 ≡ None
no_fourth = refl
