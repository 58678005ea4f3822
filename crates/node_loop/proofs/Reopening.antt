-- What is kept for a peer went out, and no acknowledgement of it came since.
use Rattle.std.specs.Prelude.{◌≡◌, ℕ, ◌+◌, ◌==◌, ◌&&◌, ◌||◌, not, Bool, true, false, nat_le, nat_lt, List, [], ◌∷◌, ◌++◌, length, map, reverse, Option, Some, None, Result, Ok, Err, refl, if◌then◌else◌}
use Rattle.std.specs.List.{AllByRecursion}
use Rattle.std.proofs.Common.{sym, ◌∙◌, ap, ap₂, subst, inl, inr}
use Rattle.std.proofs.lemmas.Bool.{cases_Bool, eqb-true, eq-eqb}
use Rattle.std.proofs.lemmas.List.{append-nil}
use Rattle.std.proofs.lemmas.Slice.Eq.{bytes_eq-Decides}
use Rattle.ritas_base.specs.declared.event.Event.{Event}
use Rattle.ritas_base.specs.declared.mode.FrameVersion.{FrameVersion}
use Rattle.ritas_base.specs.declared.mode.FrameVersion.TheVariants.{One, Two, Three}
use Rattle.ritas_base.specs.declared.event.Event.TheVariants as events
use Rattle.outside.specs.declared.link.LinkItem.{LinkItem}
use Rattle.outside.specs.declared.link.LinkItem.TheVariants as items
use Rattle.outside.specs.declared.link.Sent.{Sent}
use Rattle.keyed_channel.specs.Frames.{Opening, opening, seq_of}
use Rattle.keyed_channel.specs.Notes.{is_note, noted}
use Rattle.keyed_channel.specs.declared.frame.OpenFault.{OpenFault}
use Rattle.keyed_channel.specs.declared.note.Note.{Note}
use Rattle.keyed_channel.specs.declared.note.Note.TheVariants as notes
use Rattle.link_resume.specs.declared.kept.Kept.{Kept}
use Rattle.link_resume.specs.Lists.{bytes_in, most_kept, may_have, between, all_but, room_within, room_for}
use Rattle.world_model.specs.World.{Setting, seen_of}
use Rattle.world_model.specs.MadeOrder.{MadeFrame, all_made}
use Rattle.node_loop.specs.declared.limits.Limits.{Limits}
use Rattle.node_loop.specs.Waiting.{Waiting}
use Rattle.node_loop.specs.Calls.{Outcome, event_called, silent, item_does, first_does, epoch_closed}
use Rattle.node_loop.specs.declared.peers.Early.{Early}
use Rattle.node_loop.specs.Peers.{Peers, is_pair, with_list, with_mark, early_with, marked_early, with_pending, keeps, keep_one, keep_all, acknowledged}
use Rattle.node_loop.specs.Deeds.{Deed, Came, Made, Resent, Acked, Wished, Replied, pushed, is_resent, has_resent, says_so, acks, is_first, is_connected}
use Rattle.node_loop.specs.declared.output.Part.{Part}
use Rattle.node_loop.specs.declared.output.Part.TheVariants as parts_are
use Rattle.node_loop.specs.declared.peers.Pending.{Pending}
use Rattle.node_loop.specs.Resending.{Brought, nothing_more, mark_at, is_deferred, opened_so, part_of, resends, newest_in, batch_step, has_none, before, sends_batch, goes_on, begins_at, begins_unless, acked_so, asked_so, connected, noted_so}
use Rattle.node_loop.proofs.Batching.{part_all}
use Rattle.node_loop.specs.Serving.{Serving, so_far, Round, Began, Turned, Closed, Reminded, Took, frames_made_by, brought, outcome, after_from}
use Rattle.node_loop.specs.Told.{AreJoined, AreGroups, after_groups, came_in, with_deeds, newest_deeds, deeds_from}
use Rattle.node_loop.specs.Recovering.{keep_newest, all_newest, recalled_peers, recalled_deeds}
use Rattle.node_loop.specs.Laws.{IsUnacknowledged, AllSent, AreOpen, ResendsAreOpen, RecalledAreSent, RecalledAreOpen}
use Rattle.node_loop.proofs.FramesSent.{firsts_made}
use Rattle.node_loop.proofs.InOrder.{came, in_order, StaysWhere, AreOfKindBefore, together}

-- ---- tests

or_left : (a b : Bool) → a ≡ true → (a || b) ≡ true
or_left true b h = refl
or_left false b h = absurd (cc)

or_right : (a b : Bool) → b ≡ true → (a || b) ≡ true
or_right true b h = refl
or_right false b h = h

not_and : (a b : Bool) → a ≡ false → b ≡ true → (not a && b) ≡ true
not_and a b fails passes = ap₂ (λ (x y : Bool). not x && y) fails passes

both : (a b : Bool) → (a && b) ≡ true → (a ≡ true) × (b ≡ true)
both true b h = (refl, h)
both false b h = absurd (cc)

-- ---- what is kept

-- all that is kept went out, and all that went out again did
pub record Good (w : Setting) (p : Peers) (ds : List Deed) : Type 0 where
  pub sent : AllSent w p ds
  pub again : AreOpen w ds

append_all : {X : Type 0} (P : X → Type 0) (xs : List X) (y : X) → AllByRecursion P xs → P y → AllByRecursion P (xs ++ y ∷ [])
append_all P [] y all one = (one, tt)
append_all P (x ∷ xs) y all one = (all.0, append_all P xs y all.1 one)

-- one list changes
pair_is : (i j a b : ℕ) → is_pair i j a b ≡ true → (a ≡ i) × (b ≡ j)
pair_is i j a b h = let t = both (a == i) (b == j) h in (eqb-true a i t.0, eqb-true b j t.1)

one_list : (w : Setting) (i j : ℕ) (kept : List Kept) (p : Peers) (ds : List Deed) → AllByRecursion (IsUnacknowledged w i j ds) kept
    → ((a b : ℕ) → is_pair i j a b ≡ false → AllByRecursion (IsUnacknowledged w a b ds) (p.keeping a b)) → AllSent w (with_list i j kept p) ds
one_list w i j kept p ds here others = record {
  each = λ a b. by_pair a b (is_pair i j a b) refl;
}
  where
    by_pair : (a b : ℕ) (t : Bool) → is_pair i j a b ≡ t → AllByRecursion (IsUnacknowledged w a b ds) (if t then kept else p.keeping a b)
    by_pair a b true same =
        let e = pair_is i j a b same in
        subst (λ (x : ℕ). AllByRecursion (IsUnacknowledged w x b ds) kept) (sym e.0) (subst (λ (y : ℕ). AllByRecursion (IsUnacknowledged w i y ds) kept) (sym e.1) here)
    by_pair a b false other = others a b other

-- ---- frames that go out for the first time

made_stays : (w : Setting) (f : MadeFrame) (i j : ℕ) (ds : List Deed) (ks : List Kept) → AllByRecursion (IsUnacknowledged w i j ds) ks
    → AllByRecursion (IsUnacknowledged w i j (Made f ∷ ds)) ks
made_stays w f i j ds [] all = tt
made_stays w f i j ds (k ∷ ks) all =
    ((all.0.0, or_right (is_first f i j k.frame) (is_connected w i j k.frame ds) all.0.1), made_stays w f i j ds ks all.1)

first_itself : (f : MadeFrame) → is_first f f.from f.to f.bytes ≡ true
first_itself f =
    ap₂ (λ (x y : Bool). x && y) (eq-eqb f.from f.from refl)
    (ap₂ (λ (x y : Bool). x && y) (eq-eqb f.to f.to refl) ((bytes_eq-Decides f.bytes f.bytes).1 refl))

keeps_sent : (w : Setting) (f : MadeFrame) (ds : List Deed) (ks : List Kept) → AllByRecursion (IsUnacknowledged w f.from f.to ds) ks
    → AllByRecursion (IsUnacknowledged w f.from f.to (Made f ∷ ds)) (keeps w.mode.version f.bytes ks)
keeps_sent w f ds ks all = by_room (may_have (most_kept w.mode.version) (bytes_in ks + length f.bytes))
  where
    by_room : (b : Bool) → AllByRecursion (IsUnacknowledged w f.from f.to (Made f ∷ ds)) (if b then ks ++ record { seq = seq_of f.bytes; frame = f.bytes } ∷ [] else ks)
    by_room true =
        append_all (IsUnacknowledged w f.from f.to (Made f ∷ ds)) ks (record { seq = seq_of f.bytes; frame = f.bytes }) (made_stays w f f.from f.to ds ks all)
        (refl, or_left (is_first f f.from f.to f.bytes) (is_connected w f.from f.to f.bytes ds) (first_itself f))
    by_room false = made_stays w f f.from f.to ds ks all

one_made : (w : Setting) (f : MadeFrame) (p : Peers) (ds : List Deed) → Good w p ds → Good w (keep_one w.mode.version f p) (Made f ∷ ds)
one_made w f p ds good = record {
  sent = one_list w f.from f.to (keeps w.mode.version f.bytes (p.keeping f.from f.to)) p (Made f ∷ ds) (keeps_sent w f ds (p.keeping f.from f.to) (good.sent.each f.from f.to))
      (λ a b _. made_stays w f a b ds (p.keeping a b) (good.sent.each a b));
  again = good.again;
}

pub all_made_good : (w : Setting) (fs : List MadeFrame) (p : Peers) (ds : List Deed) → Good w p ds → Good w (keep_all w.mode.version fs p) (pushed (map Made fs) ds)
all_made_good w [] p ds good = good
all_made_good w (f ∷ fs) p ds good = all_made_good w fs (keep_one w.mode.version f p) (Made f ∷ ds) (one_made w f p ds good)

-- ---- frames that go out again, and what changes nothing

again_sent : (w : Setting) (i j : ℕ) (p : Peers) (frame : List ℕ) (ds : List Deed) → AllSent w p ds → AllSent w p (Resent i j frame ∷ ds)
again_sent w i j p frame ds sent = record { each = sent.each }

resent_good : (w : Setting) (i j : ℕ) (p : Peers) (ks : List Kept) (ds : List Deed) → AllByRecursion (IsUnacknowledged w i j ds) ks → Good w p ds
    → Good w p (pushed (map (λ k. Resent i j k.frame) ks) ds)
resent_good w i j p [] ds all good = good
resent_good w i j p (k ∷ ks) ds all good =
    resent_good w i j p ks (Resent i j k.frame ∷ ds) all.1 (record { sent = again_sent w i j p k.frame ds good.sent; again = (all.0.1, good.again) })

resends_good : (w : Setting) (i j : ℕ) (part : Part) (p : Peers) (ds : List Deed) → Good w p ds → Good w p (pushed (resends i j part p).deeds ds)
resends_good w i j part p ds good =
    resent_good w i j p (part_of part (p.keeping i j)) ds (part_all (IsUnacknowledged w i j ds) part (p.keeping i j) (good.sent.each i j)) good

-- how far it went
pending_good : (w : Setting) (i j : ℕ) (pending : Option Pending) (p : Peers) (ds : List Deed) → Good w p ds → Good w (with_pending i j pending p) ds
pending_good w i j pending p ds good = record { sent = record { each = good.sent.each }; again = good.again }

batch_good : (w : Setting) (i j : ℕ) (after : Option ℕ) (end most : ℕ) (p : Peers) (ds : List Deed) → Good w p ds
    → Good w (sends_batch i j after end most p).peers (pushed (sends_batch i j after end most p).deeds ds)
batch_good w i j after end most p ds good = resends_good w i j (parts_are.Batch after end most) _ ds (pending_good w i j _ p ds good)

replied_good : (w : Setting) (rs : List Sent) (p : Peers) (ds : List Deed) → Good w p ds → Good w p (pushed (map Replied rs) ds)
replied_good w [] p ds good = good
replied_good w (r ∷ rs) p ds good = replied_good w rs p (Replied r ∷ ds) (record { sent = record { each = good.sent.each }; again = good.again })

acked_good : (w : Setting) (i j seq : ℕ) (p : Peers) (ds : List Deed) → Good w p ds → Good w p (Acked i j seq ∷ ds)
acked_good w i j seq p ds good = record { sent = record { each = good.sent.each }; again = good.again }

marked_good : (w : Setting) (i j : ℕ) (mark : Option Early) (p : Peers) (ds : List Deed) → Good w p ds → Good w (with_mark i j mark p) ds
marked_good w i j mark p ds good = record { sent = record { each = good.sent.each }; again = good.again }

asked_good : (w : Setting) (i j seq : ℕ) (p : Peers) (ds : List Deed) → Good w p ds → Good w (with_mark i j None p) (Wished i j seq ∷ ds)
asked_good w i j seq p ds good = record { sent = record { each = good.sent.each }; again = good.again }

-- ---- items that are no acknowledgement

came_stays : (w : Setting) (item : LinkItem) (i j : ℕ) (ds : List Deed) (ks : List Kept) → ((seq : ℕ) → acks w item i j seq ≡ false)
    → AllByRecursion (IsUnacknowledged w i j ds) ks → AllByRecursion (IsUnacknowledged w i j (Came false item ∷ ds)) ks
came_stays w item i j ds [] none all = tt
came_stays w item i j ds (k ∷ ks) none all =
    ((all.0.0, not_and (acks w item i j (seq_of k.frame)) (is_connected w i j k.frame ds) (none (seq_of k.frame)) all.0.1), came_stays w item i j ds ks none all.1)

came_good : (w : Setting) (item : LinkItem) (p : Peers) (ds : List Deed) → ((i j seq : ℕ) → acks w item i j seq ≡ false) → Good w p ds → Good w p (Came false item ∷ ds)
came_good w item p ds none good = record {
  sent = record { each = λ i j. came_stays w item i j ds (p.keeping i j) (none i j) (good.sent.each i j) };
  again = good.again;
}

-- ---- an acknowledgement

-- what it acknowledges
acks_is : (w : Setting) (to from number : ℕ) (bytes : List ℕ) → w.is_correct to ≡ true → is_note bytes ≡ true → noted (w.keys to) bytes ≡ Some (notes.Ack from number)
    → (i j seq : ℕ) → acks w (items.Frame to bytes) i j seq ≡ (to == i && (from == j && number == seq))
acks_is w to from number bytes here note said i j seq =
    ap₂ (λ (x y : Bool). x && (to == i && y)) here (ap₂ (λ (x y : Bool). x && y) note (ap (λ (o : Option Note). says_so o j seq) said))

and_false : (a b : Bool) → b ≡ false → (a && b) ≡ false
and_false true b h = h
and_false false b h = refl

other_seq : (a b : ℕ) → not (b == a) ≡ true → (a == b) ≡ false
other_seq a b h = elim (cases_Bool (a == b)) [
  | inl same ↦
      let e : not (b == a) ≡ false = ap not (eq-eqb b a (sym (eqb-true a b same))) in
      absurd (cc)
  | inr other ↦ other
]

taken_step : (w : Setting) (to from number : ℕ) (bytes : List ℕ) → ((i j seq : ℕ) → acks w (items.Frame to bytes) i j seq ≡ (to == i && (from == j && number == seq)))
    → (ds : List Deed) (k : Kept) (ks : List Kept) (b : Bool) → not (k.seq == number) ≡ b → IsUnacknowledged w to from ds k
    → AllByRecursion (IsUnacknowledged w to from (Came false (items.Frame to bytes) ∷ ds)) ks
    → AllByRecursion (IsUnacknowledged w to from (Came false (items.Frame to bytes) ∷ ds)) (if b then k ∷ ks else ks)
taken_step w to from number bytes is ds k ks true other one rest =
    let none : acks w (items.Frame to bytes) to from (seq_of k.frame) ≡ false =
    is to from (seq_of k.frame)
    ∙ and_false (to == to) (from == from && number == seq_of k.frame) (and_false (from == from) (number == seq_of k.frame)
    (ap (λ (n : ℕ). number == n) (sym one.0) ∙ other_seq number k.seq other)) in
    ((one.0, not_and (acks w (items.Frame to bytes) to from (seq_of k.frame)) (is_connected w to from k.frame ds) none one.1), rest)
taken_step w to from number bytes is ds k ks false same one rest = rest

taken_stays : (w : Setting) (to from number : ℕ) (bytes : List ℕ) → ((i j seq : ℕ) → acks w (items.Frame to bytes) i j seq ≡ (to == i && (from == j && number == seq)))
    → (ds : List Deed) (ks : List Kept) → AllByRecursion (IsUnacknowledged w to from ds) ks → AllByRecursion (IsUnacknowledged w to from (Came false (items.Frame to bytes) ∷ ds)) (all_but number ks)
taken_stays w to from number bytes is ds [] all = tt
taken_stays w to from number bytes is ds (k ∷ ks) all =
    taken_step w to from number bytes is ds k (all_but number ks) (not (k.seq == number)) refl all.0 (taken_stays w to from number bytes is ds ks all.1)

other_pair : (to from a b : ℕ) (x : Bool) → is_pair to from a b ≡ false → (to == a && (from == b && x)) ≡ false
other_pair to from a b x other = elim (cases_Bool (to == a)) [
  | inl one ↦ elim (cases_Bool (from == b)) [
    | inl two ↦
        let e : is_pair to from a b ≡ true = ap₂ (λ (x y : Bool). x && y) (eq-eqb a to (sym (eqb-true to a one))) (eq-eqb b from (sym (eqb-true from b two))) in
        absurd (cc)
    | inr two ↦ and_false (to == a) (from == b && x) (ap (λ (y : Bool). y && x) two)
  ]
  | inr one ↦ ap (λ (y : Bool). y && (from == b && x)) one
]

ack_good : (w : Setting) (to from number : ℕ) (bytes : List ℕ) (p : Peers) (ds : List Deed)
    → ((i j seq : ℕ) → acks w (items.Frame to bytes) i j seq ≡ (to == i && (from == j && number == seq)))
    → Good w p ds → Good w (acknowledged to from number p) (Came false (items.Frame to bytes) ∷ ds)
ack_good w to from number bytes p ds is good = record {
  sent = one_list w to from (all_but number (p.keeping to from)) p (Came false (items.Frame to bytes) ∷ ds)
      (taken_stays w to from number bytes is ds (p.keeping to from) (good.sent.each to from))
      (λ a b other. came_stays w (items.Frame to bytes) a b ds (p.keeping a b) (λ seq. is a b seq ∙ other_pair to from a b (number == seq) other) (good.sent.each a b));
  again = good.again;
}

-- ---- a frame of the link

-- it says otherwise
acks_none : (w : Setting) (to : ℕ) (bytes : List ℕ) (i j seq : ℕ) → says_so (noted (w.keys to) bytes) j seq ≡ false → acks w (items.Frame to bytes) i j seq ≡ false
acks_none w to bytes i j seq h =
    and_false (w.is_correct to) (to == i && (is_note bytes && says_so (noted (w.keys to) bytes) j seq))
    (and_false (to == i) (is_note bytes && says_so (noted (w.keys to) bytes) j seq) (and_false (is_note bytes) (says_so (noted (w.keys to) bytes) j seq) h))

-- it is no note
acks_frame : (w : Setting) (to : ℕ) (bytes : List ℕ) (i j seq : ℕ) → is_note bytes ≡ false → acks w (items.Frame to bytes) i j seq ≡ false
acks_frame w to bytes i j seq h =
    and_false (w.is_correct to) (to == i && (is_note bytes && says_so (noted (w.keys to) bytes) j seq))
    (and_false (to == i) (is_note bytes && says_so (noted (w.keys to) bytes) j seq) (ap (λ (b : Bool). b && says_so (noted (w.keys to) bytes) j seq) h))

-- whichever of two comes
either_good : (w : Setting) (x y : Brought) (ds : List Deed) (b : Bool) → Good w x.peers (pushed x.deeds ds) → Good w y.peers (pushed y.deeds ds)
    → Good w (if b then x else y).peers (pushed (if b then x else y).deeds ds)
either_good w x y ds true first second = first
either_good w x y ds false first second = second

-- an acknowledgement, where all of the newest batch is taken with it and where it is not
goes_on_good : (w : Setting) (i j : ℕ) (pending : Option Pending) (p : Peers) (ds : List Deed) → Good w p ds
    → Good w (goes_on i j pending p).peers (pushed (goes_on i j pending p).deeds ds)
goes_on_good w i j None p ds good = good
goes_on_good w i j (Some pending) p ds good =
    either_good w (sends_batch i j (Some pending.last) pending.end pending.most p) (nothing_more p) ds
    (has_none (between pending.after pending.last (p.keeping i j)))
    (batch_good w i j (Some pending.last) pending.end pending.most p ds good) good

acked_so_good : (w : Setting) (version : FrameVersion) (i j seq : ℕ) (p : Peers) (ds : List Deed) → Good w (acknowledged i j seq p) ds
    → Good w (acked_so version i j seq p).peers (pushed (acked_so version i j seq p).deeds ds)
acked_so_good w One i j seq p ds good = good
acked_so_good w Two i j seq p ds good = good
acked_so_good w Three i j seq p ds good = goes_on_good w i j (p.pending i j) (acknowledged i j seq p) ds good

-- a connection
connected_good : (w : Setting) (version : FrameVersion) (i j : ℕ) (p : Peers) (ds : List Deed) → Good w p ds
    → Good w (connected version i j p).peers (pushed (connected version i j p).deeds ds)
connected_good w One i j p ds good = resends_good w i j parts_are.All p ds good
connected_good w Two i j p ds good = resends_good w i j parts_are.All p ds good
connected_good w Three i j p ds good = batch_good w i j None _ batch_step p ds good

-- a note that asks for more
begins_unless_good : (w : Setting) (i j seq : ℕ) (pending : Option Pending) (p : Peers) (ds : List Deed) → Good w p ds
    → Good w (begins_unless i j seq pending p).peers (pushed (begins_unless i j seq pending p).deeds ds)
begins_unless_good w i j seq None p ds good = batch_good w i j (before seq) _ 0 p ds good
begins_unless_good w i j seq (Some pending) p ds good =
    either_good w (nothing_more (with_pending i j (Some (record pending { end = newest_in (p.keeping i j) })) p)) (begins_at i j seq p) ds
    (nat_lt pending.last seq) (pending_good w i j _ p ds good) (batch_good w i j (before seq) _ 0 p ds good)

asked_so_good : (w : Setting) (version : FrameVersion) (i j seq : ℕ) (p : Peers) (ds : List Deed) → Good w p ds
    → Good w (asked_so version i j seq p).peers (pushed (asked_so version i j seq p).deeds ds)
asked_so_good w One i j seq p ds good = resends_good w i j parts_are.All p ds good
asked_so_good w Two i j seq p ds good = resends_good w i j parts_are.All p ds good
asked_so_good w Three i j seq p ds good = begins_unless_good w i j seq (p.pending i j) p ds good

-- what a note leaves
note_good : (w : Setting) (version : FrameVersion) (to : ℕ) (bytes : List ℕ) (p : Peers) (ds : List Deed) (said : Option Note) → w.is_correct to ≡ true → is_note bytes ≡ true
    → noted (w.keys to) bytes ≡ said → Good w p ds
    → Good w (noted_so version to p said).peers (pushed (noted_so version to p said).deeds (Came false (items.Frame to bytes) ∷ ds))
note_good w version to bytes p ds None here note is good =
    came_good w (items.Frame to bytes) p ds (λ i j seq. acks_none w to bytes i j seq (ap (λ (o : Option Note). says_so o j seq) is)) good
note_good w version to bytes p ds (Some (notes.Ack from number)) here note is good =
    acked_so_good w version to from number p (Came false (items.Frame to bytes) ∷ ds) (ack_good w to from number bytes p ds (acks_is w to from number bytes here note is) good)
note_good w version to bytes p ds (Some (notes.Again from number)) here note is good =
    asked_so_good w version to from number p (Came false (items.Frame to bytes) ∷ ds)
    (came_good w (items.Frame to bytes) p ds (λ i j seq. acks_none w to bytes i j seq (ap (λ (o : Option Note). says_so o j seq) is)) good)

-- what a frame leaves that is no note
opened_good : (w : Setting) (es : List Event) (to : ℕ) (bytes : List ℕ) (p : Peers) (ds : List Deed) (said : Result Opening OpenFault) → Good w p ds
    → Good w (opened_so w es to bytes p said).peers (pushed (opened_so w es to bytes p said).deeds ds)
opened_good w es to bytes p ds (Err fault) good = good
opened_good w es to bytes p ds (Ok o) good =
    either_good w (nothing_more (marked_early to o.from o.seq (mark_at w (events.Frame to bytes ∷ es) to o.from) p)) (record { deeds = Acked to o.from o.seq ∷ []; peers = p })
    ds (is_deferred (seen_of w es (events.Frame to bytes)))
    (marked_good w to o.from (Some (early_with (p.marks to o.from) (mark_at w (events.Frame to bytes ∷ es) to o.from) o.seq)) p ds good) (acked_good w to o.from o.seq p ds good)

abbrev pub did_so : Bool → Bool → Outcome → Waiting → Outcome
did_so here note did ws = if here then (if note then silent [] ws else did) else silent [] ws

abbrev pub brings_so : Bool → Bool → Brought → Brought → Peers → Brought
brings_so here note a b p = if here then (if note then a else b) else nothing_more p

abbrev FrameGood : Setting → List Event → ℕ → List ℕ → Waiting → Peers → List Deed → Bool → Bool → Type 0
FrameGood w es to bytes ws p ds here note =
    let did = did_so here note (event_called w es to (events.Frame to bytes) ws) ws in
    let fs = frames_made_by w es did.event in
    let q = keep_all w.mode.version fs p in
    let more = brings_so here note (noted_so w.mode.version to q (noted (w.keys to) bytes)) (opened_so w es to bytes q (opening (w.keys to) bytes)) q in
    Good w more.peers (with_deeds fs more.deeds did.replies (Came false (items.Frame to bytes) ∷ ds))

frame_good : (w : Setting) (es : List Event) (to : ℕ) (bytes : List ℕ) (ws : Waiting) (p : Peers) (ds : List Deed) (here note : Bool)
    → w.is_correct to ≡ here → is_note bytes ≡ note → Good w p ds → FrameGood w es to bytes ws p ds here note
frame_good w es to bytes ws p ds false note is kind good =
    came_good w (items.Frame to bytes) p ds (λ i j seq. ap (λ (b : Bool). b && (to == i && (is_note bytes && says_so (noted (w.keys to) bytes) j seq))) is) good
frame_good w es to bytes ws p ds true true is kind good = note_good w w.mode.version to bytes p ds (noted (w.keys to) bytes) is kind refl good
frame_good w es to bytes ws p ds true false is kind good =
    let did = event_called w es to (events.Frame to bytes) ws in
    let fs = frames_made_by w es did.event in
    let came_so = came_good w (items.Frame to bytes) p ds
    (λ i j seq. acks_frame w to bytes i j seq kind) good in
    replied_good w did.replies _ _
    (opened_good w es to bytes (keep_all w.mode.version fs p) (pushed (map Made fs) (Came false (items.Frame to bytes) ∷ ds)) (opening (w.keys to) bytes)
    (all_made_good w fs p (Came false (items.Frame to bytes) ∷ ds) came_so))

-- ---- rounds

abbrev RoundGood : Setting → List Event → Round → Serving → List Deed → Type 0
RoundGood w past x s ds =
    Good w (brought w past x s).peers (with_deeds (frames_made_by w (so_far past s) (outcome w past x s).event) (brought w past x s).deeds (outcome w past x s).replies (came x ds))

-- its frames and its replies alone
plain_good : (w : Setting) (es : List Event) (did : Outcome) (p : Peers) (ds : List Deed) → Good w p ds
    → Good w (keep_all w.mode.version (frames_made_by w es did.event) p) (with_deeds (frames_made_by w es did.event) [] did.replies ds)
plain_good w es did p ds good = replied_good w did.replies _ _ (all_made_good w (frames_made_by w es did.event) p ds good)

up_good : (w : Setting) (version : FrameVersion) (at peer : ℕ) (p : Peers) (ds : List Deed) (b : Bool) → Good w p ds
    → Good w (if b then connected version at peer p else nothing_more p).peers (pushed (if b then connected version at peer p else nothing_more p).deeds ds)
up_good w version at peer p ds true good = connected_good w version at peer p ds good
up_good w version at peer p ds false good = good

round_good : (w : Setting) (past : List Event) (x : Round) (s : Serving) (ds : List Deed) → Good w s.peers ds → RoundGood w past x s ds
round_good w past (Began item) s ds good = plain_good w (so_far past s) (first_does w (so_far past s) item s.waiting) s.peers ds good
round_good w past (Turned i) s ds good = plain_good w (so_far past s) (event_called w (so_far past s) i (events.Turn i) s.waiting) s.peers ds good
round_good w past (Closed i epoch) s ds good = plain_good w (so_far past s) (epoch_closed w (so_far past s) i epoch s.waiting) s.peers ds good
round_good w past (Reminded i j) s ds good = asked_good w i j _ s.peers ds good
round_good w past (Took (items.Frame to bytes)) s ds good =
    frame_good w (so_far past s) to bytes s.waiting s.peers ds (w.is_correct to) (is_note bytes) refl refl good
round_good w past (Took (items.Client at conn bytes)) s ds good =
    plain_good w (so_far past s) (item_does w (so_far past s) (items.Client at conn bytes) s.waiting) s.peers (Came false (items.Client at conn bytes) ∷ ds)
    (came_good w (items.Client at conn bytes) s.peers ds (λ i j seq. refl) good)
round_good w past (Took (items.Reply from bytes)) s ds good = came_good w (items.Reply from bytes) s.peers ds (λ i j seq. refl) good
round_good w past (Took (items.Up at peer)) s ds good =
    up_good w w.mode.version at peer s.peers (Came false (items.Up at peer) ∷ ds) (w.is_correct at && nat_lt peer w.numbers.n)
    (came_good w (items.Up at peer) s.peers ds (λ i j seq. refl) good)
round_good w past (Took (items.Down at peer)) s ds good = came_good w (items.Down at peer) s.peers ds (λ i j seq. refl) good
round_good w past (Took (items.Left at conn)) s ds good = came_good w (items.Left at conn) s.peers ds (λ i j seq. refl) good
round_good w past (Took items.End) s ds good = came_good w items.End s.peers ds (λ i j seq. refl) good

good_in_order : (w : Setting) (past : List Event) (start : Serving) (ds : List Deed) (rounds : List Round) → Good w start.peers ds
    → Good w (after_from w past start rounds).peers (in_order w past start ds rounds)
good_in_order w past start ds [] good = good
good_in_order w past start ds (x ∷ rounds) good =
    round_good w past x (after_from w past start rounds) (in_order w past start ds rounds) (good_in_order w past start ds rounds good)

-- ---- groups

-- what is on its way by the ones is by the others, and the others are open where the ones are
record StayOpen (w : Setting) (a b : List Deed) : Type 0 where
  connected : (i j : ℕ) (frame : List ℕ) → is_connected w i j frame a ≡ true → is_connected w i j frame b ≡ true
  again : AreOpen w a → AreOpen w b

connected_behind : (w : Setting) (d : Deed) (a b : List Deed) (i j : ℕ) (frame : List ℕ) → (is_connected w i j frame a ≡ true → is_connected w i j frame b ≡ true)
    → is_connected w i j frame (d ∷ a) ≡ true → is_connected w i j frame (d ∷ b) ≡ true
connected_behind w (Came now item) a b i j frame f is =
    let parts = both (not (acks w item i j (seq_of frame))) (is_connected w i j frame a) is in
    ap₂ (λ (x y : Bool). x && y) parts.0 (f parts.1)
connected_behind w (Made made) a b i j frame f is = by_first (is_first made i j frame) is
  where
    by_first : (t : Bool) → (t || is_connected w i j frame a) ≡ true → (t || is_connected w i j frame b) ≡ true
    by_first true is = refl
    by_first false is = f is
connected_behind w (Resent k l other) a b i j frame f is = f is
connected_behind w (Acked k l seq) a b i j frame f is = f is
connected_behind w (Wished k l seq) a b i j frame f is = f is
connected_behind w (Replied sent) a b i j frame f is = f is

open_behind : (w : Setting) (d : Deed) (a b : List Deed) → StayOpen w a b → AreOpen w (d ∷ a) → AreOpen w (d ∷ b)
open_behind w (Came now item) a b stay all = stay.again all
open_behind w (Made f) a b stay all = stay.again all
open_behind w (Resent i j frame) a b stay all = (stay.connected i j frame all.0, stay.again all.1)
open_behind w (Acked i j seq) a b stay all = stay.again all
open_behind w (Wished i j seq) a b stay all = stay.again all
open_behind w (Replied sent) a b stay all = stay.again all

and_turned : (a b c : Bool) → (a && (b && c)) ≡ true → (b && (a && c)) ≡ true
and_turned true b c is = is
and_turned false b c is = absurd (cc)

or_before : (a b c : Bool) → (a && (b || c)) ≡ true → (b || (a && c)) ≡ true
or_before true b c is = is
or_before false b c is = absurd (cc)

connected_sooner : (w : Setting) (now : Bool) (item : LinkItem) (d : Deed) (ds : List Deed) (i j : ℕ) (frame : List ℕ)
    → is_connected w i j frame (Came now item ∷ d ∷ ds) ≡ true → is_connected w i j frame (d ∷ Came now item ∷ ds) ≡ true
connected_sooner w now item (Came later other) ds i j frame is =
    and_turned (not (acks w item i j (seq_of frame))) (not (acks w other i j (seq_of frame))) (is_connected w i j frame ds) is
connected_sooner w now item (Made f) ds i j frame is = or_before (not (acks w item i j (seq_of frame))) (is_first f i j frame) (is_connected w i j frame ds) is
connected_sooner w now item (Resent k l other) ds i j frame is = is
connected_sooner w now item (Acked k l seq) ds i j frame is = is
connected_sooner w now item (Wished k l seq) ds i j frame is = is
connected_sooner w now item (Replied sent) ds i j frame is = is

-- a deed that sends nothing again
abbrev IsNew : Deed → Type 0
IsNew d = is_resent d ≡ false

open_sooner : (w : Setting) (now : Bool) (item : LinkItem) (d : Deed) (ds : List Deed) → IsNew d → AreOpen w (Came now item ∷ d ∷ ds) → AreOpen w (d ∷ Came now item ∷ ds)
open_sooner w now item (Came later other) ds new all = all
open_sooner w now item (Made f) ds new all = all
open_sooner w now item (Resent i j frame) ds new all = absurd (cc)
open_sooner w now item (Acked i j seq) ds new all = all
open_sooner w now item (Wished i j seq) ds new all = all
open_sooner w now item (Replied sent) ds new all = all

open_stay : (w : Setting) → StaysWhere IsNew (StayOpen w)
open_stay w = record {
  itself = λ ds. record { connected = λ i j frame is. is; again = λ all. all };
  through = λ a b c first second. record {
    connected = λ i j frame is. second.connected i j frame (first.connected i j frame is);
    again = λ all. second.again (first.again all);
  };
  behind = λ d a b stay. record {
    connected = λ i j frame. connected_behind w d a b i j frame (stay.connected i j frame);
    again = open_behind w d a b stay;
  };
  either_call = λ now later item ds. record { connected = λ i j frame is. is; again = λ all. all };
  sooner = λ now item d ds new. record { connected = connected_sooner w now item d ds; again = open_sooner w now item d ds new };
}

-- behind the newest round of a group none sends anything again
none_again : (ds : List Deed) → has_resent ds ≡ false → AllByRecursion IsNew ds
none_again [] none = tt
none_again (d ∷ ds) none = let parts = neither (is_resent d) (has_resent ds) none in (parts.0, none_again ds parts.1)
  where
    neither : (a b : Bool) → (a || b) ≡ false → (a ≡ false) × (b ≡ false)
    neither true b none = absurd (cc)
    neither false b none = (refl, none)

new_before : (w : Setting) (past : List Event) (start : Serving) (group : List Round) → AreJoined w past start group → AreOfKindBefore IsNew w past start group
new_before w past start [] joined = tt
new_before w past start (x ∷ []) joined = tt
new_before w past start (x ∷ (y ∷ group)) joined =
    (none_again (brought w past y (after_from w past start group)).deeds joined.0.1, new_before w past start (y ∷ group) joined.1)

still_all_sent : (w : Setting) (i j : ℕ) (a b : List Deed) (ks : List Kept) → StayOpen w a b → AllByRecursion (IsUnacknowledged w i j a) ks
    → AllByRecursion (IsUnacknowledged w i j b) ks
still_all_sent w i j a b [] stay all = tt
still_all_sent w i j a b (k ∷ ks) stay all = ((all.0.0, stay.connected i j k.frame all.0.1), still_all_sent w i j a b ks stay all.1)

still_good : (w : Setting) (p : Peers) (a b : List Deed) → StayOpen w a b → Good w p a → Good w p b
still_good w p a b stay good = record {
  sent = record { each = λ i j. still_all_sent w i j a b (p.keeping i j) stay (good.sent.each i j) };
  again = stay.again good.again;
}

groups_good : (w : Setting) (past : List Event) (limits : Limits) (start : Serving) (ds : List Deed) (groups : List (List Round))
    → AreGroups w past limits start groups → Good w start.peers ds → Good w (after_groups w past start groups).peers (deeds_from w past start ds groups)
groups_good w past limits start ds [] are good = good
groups_good w past limits start ds (group ∷ older) are good =
    let s = after_groups w past start older in
    let below = deeds_from w past start ds older in
    still_good w (after_from w past s group).peers (in_order w past s below group) (newest_deeds w past s (came_in group ++ below) group)
    (together IsNew (StayOpen w) (open_stay w) (λ f. refl) (λ sent. refl) w past s below group (new_before w past s group are.0.joined))
    (good_in_order w past s below group (groups_good w past limits start ds older are.2 good))

pub resends_open : ResendsAreOpen
resends_open w past limits start ds groups are sent again =
    (groups_good w past limits start ds groups are (record { sent = sent; again = again })).again

-- ---- events that a journal kept

-- where the oldest are dropped, all others stay
within_all : (P : Kept → Type 0) (most size : ℕ) (ks : List Kept) → AllByRecursion P ks → AllByRecursion P (room_within most size ks)
within_all P most size [] all = tt
within_all P most size (k ∷ ks) all = by_room (nat_le (bytes_in (k ∷ ks) + size) most) (within_all P most size ks all.1)
  where
    by_room : (b : Bool) → AllByRecursion P (room_within most size ks) → AllByRecursion P (if b then k ∷ ks else room_within most size ks)
    by_room true fewer = all
    by_room false fewer = fewer

room_all : (P : Kept → Type 0) (limit : Option ℕ) (size : ℕ) (ks : List Kept) → AllByRecursion P ks → AllByRecursion P (room_for limit size ks)
room_all P None size ks all = all
room_all P (Some most) size ks all = within_all P most size ks all

one_newest : (w : Setting) (f : MadeFrame) (p : Peers) (ds : List Deed) → Good w p ds → Good w (keep_newest w.mode.version f p) (Made f ∷ ds)
one_newest w f p ds good =
    let own = p.keeping f.from f.to in
    let limit = most_kept w.mode.version in
    record {
      sent = one_list w f.from f.to (keeps w.mode.version f.bytes (room_for limit (length f.bytes) own)) p (Made f ∷ ds)
          (keeps_sent w f ds (room_for limit (length f.bytes) own) (room_all (IsUnacknowledged w f.from f.to ds) limit (length f.bytes) own (good.sent.each f.from f.to)))
          (λ a b _. made_stays w f a b ds (p.keeping a b) (good.sent.each a b));
      again = good.again;
    }

newest_good : (w : Setting) (fs : List MadeFrame) (p : Peers) (ds : List Deed) → Good w p ds → Good w (all_newest w.mode.version fs p) (pushed (map Made fs) ds)
newest_good w [] p ds good = good
newest_good w (f ∷ fs) p ds good = newest_good w fs (keep_newest w.mode.version f p) (Made f ∷ ds) (one_newest w f p ds good)

pushed_made : (fs gs : List MadeFrame) (ds : List Deed) → pushed (map Made (fs ++ gs)) ds ≡ pushed (map Made gs) (pushed (map Made fs) ds)
pushed_made [] gs ds = refl
pushed_made (f ∷ fs) gs ds = pushed_made fs gs (Made f ∷ ds)

recalled_good : (w : Setting) (past : List Event) → Good w (recalled_peers w past) (recalled_deeds w past)
unfolding all_made
recalled_good w [] = record { sent = record { each = λ i j. tt }; again = tt }
recalled_good w (e ∷ es) =
    subst (λ (ds : List Deed). Good w (recalled_peers w (e ∷ es)) ds) (sym (pushed_made (all_made w es) (frames_made_by w es (Some e)) []))
    (newest_good w (frames_made_by w es (Some e)) (recalled_peers w es) (recalled_deeds w es) (recalled_good w es))

pub recalled_sent : RecalledAreSent
recalled_sent w past = (recalled_good w past).sent

pub recalled_open : RecalledAreOpen
recalled_open w past = ((recalled_good w past).again, firsts_made (all_made w past) [] ∙ append-nil (reverse (all_made w past)))
