-- An acknowledgement goes out of the round that took its frame.
use Rattle.std.proofs.Common.{◌≡◌, ℕ, ◌&&◌, Bool, true, false, nat_lt, List, [], ◌∷◌, ◌++◌, map, Some, None, Option, Result, Ok, Err, refl, sym, ◌∙◌, ap, append_assoc, subst, if◌then◌else◌}
use Rattle.ritas_base.specs.declared.event.Event.{Event}
use Rattle.ritas_base.specs.declared.mode.FrameVersion.{FrameVersion}
use Rattle.ritas_base.specs.declared.event.Event.TheVariants as events
use Rattle.outside.specs.declared.link.LinkItem.TheVariants as items
use Rattle.outside.specs.declared.link.Sent.{Sent}
use Rattle.keyed_channel.specs.Frames.{Opening, opening}
use Rattle.keyed_channel.specs.Notes.{is_note, noted}
use Rattle.keyed_channel.specs.declared.frame.OpenFault.{OpenFault}
use Rattle.keyed_channel.specs.declared.note.Note.{Note}
use Rattle.keyed_channel.specs.declared.note.Note.TheVariants as notes
use Rattle.link_resume.specs.declared.kept.Kept.{Kept}
use Rattle.world_model.specs.World.{Setting, seen_of}
use Rattle.world_model.specs.MadeOrder.{MadeFrame}
use Rattle.node_loop.specs.Waiting.{Waiting}
use Rattle.node_loop.specs.Calls.{event_called}
use Rattle.node_loop.specs.Peers.{Peers, keep_all, marked_early}
use Rattle.node_loop.specs.Deeds.{Deed, Made, Resent, Acked, Replied, pushed}
use Rattle.node_loop.specs.Resending.{Brought, nothing_more, is_deferred, mark_at, opened_so, acked_so, asked_so, connected, noted_so}
use Rattle.node_loop.proofs.Batching.{OnlyResends, acked_resends, asked_resends, connected_resends}
use Rattle.node_loop.specs.Serving.{Serving, so_far, Round, Began, Turned, Closed, Reminded, Took, frames_made_by, outcome, brought, after_from}
use Rattle.node_loop.specs.Told.{after_groups, with_deeds, came_for, came_in, newest_deeds, deeds_from}
use Rattle.node_loop.specs.EarnedRounds.{Earns, IsEarnedIn, EachAck, AcksAreOfRounds}
use Rattle.node_loop.proofs.Reopening.{did_so, brings_so}

-- ---- what is no acknowledgement changes nothing

module _ (P : ℕ → ℕ → ℕ → List Deed → Type 0) where
  made_each : (fs : List MadeFrame) (ds : List Deed) → EachAck P ds → EachAck P (pushed (map Made fs) ds)
  made_each [] ds all = all
  made_each (f ∷ fs) ds all = made_each fs (Made f ∷ ds) all

  replied_each : (rs : List Sent) (ds : List Deed) → EachAck P ds → EachAck P (pushed (map Replied rs) ds)
  replied_each [] ds all = all
  replied_each (r ∷ rs) ds all = replied_each rs (Replied r ∷ ds) all

  resent_each : (i j : ℕ) (ks : List Kept) (ds : List Deed) → EachAck P ds → EachAck P (pushed (map (λ k. Resent i j k.frame) ks) ds)
  resent_each i j [] ds all = all
  resent_each i j (k ∷ ks) ds all = resent_each i j ks (Resent i j k.frame ∷ ds) all

  only_each : (i j : ℕ) (brings : Brought) (ds : List Deed) → OnlyResends i j brings → EachAck P ds → EachAck P (pushed brings.deeds ds)
  only_each i j brings ds only all =
      let P' : List Deed → Type 0 = λ more. EachAck P (pushed more ds) in subst P' (sym only.are) (resent_each i j only.frames ds all)

  noted_each : (version : FrameVersion) (i : ℕ) (p : Peers) (said : Option Note) (ds : List Deed) → EachAck P ds → EachAck P (pushed (noted_so version i p said).deeds ds)
  noted_each version i p None ds all = all
  noted_each version i p (Some (notes.Ack from seq)) ds all = only_each i from (acked_so version i from seq p) ds (acked_resends version i from seq p) all
  noted_each version i p (Some (notes.Again from seq)) ds all = only_each i from (asked_so version i from seq p) ds (asked_resends version i from seq p) all

  up_each : (version : FrameVersion) (at peer : ℕ) (p : Peers) (ds : List Deed) (b : Bool) → EachAck P ds
      → EachAck P (pushed (if b then connected version at peer p else nothing_more p).deeds ds)
  up_each version at peer p ds true all = only_each at peer (connected version at peer p) ds (connected_resends version at peer p) all
  up_each version at peer p ds false all = all

  came_each : (x : Round) (group : List Round) (ds : List Deed) → EachAck P ds → EachAck P (came_for x group ++ ds)
  came_each (Took item) [] ds all = all
  came_each (Took item) (y ∷ group) ds all = all
  came_each (Began item) group ds all = all
  came_each (Turned i) group ds all = all
  came_each (Closed i epoch) group ds all = all
  came_each (Reminded i j) group ds all = all

  items_each : (group : List Round) (ds : List Deed) → EachAck P ds → EachAck P (came_in group ++ ds)
  items_each [] ds all = all
  items_each (x ∷ group) ds all =
      let P' : List Deed → Type 0 = EachAck P in
      subst P' (sym (append_assoc (came_for x group) (came_in group) ds)) (came_each x group (came_in group ++ ds) (items_each group ds all))

  -- ---- what goes to a peer behind the frames of a call

  opened_by : (w : Setting) (es : List Event) (i : ℕ) (bytes : List ℕ) (p : Peers) (o : Opening) → Bool → Brought
  opened_by w es i bytes p o t = if t
      then nothing_more (marked_early i o.from o.seq (mark_at w (events.Frame i bytes ∷ es) i o.from) p)
      else record { deeds = Acked i o.from o.seq ∷ []; peers = p }

  answer_each : (w : Setting) (es : List Event) (i : ℕ) (bytes : List ℕ) (p : Peers) (ds : List Deed) (o : Opening) (t : Bool)
      → (t ≡ false → P i o.from o.seq ds) → EachAck P ds → EachAck P (pushed (opened_by w es i bytes p o t).deeds ds)
  unfolding opened_by
  answer_each w es i bytes p ds o true earns all = all
  answer_each w es i bytes p ds o false earns all = (earns refl, all)

  opened_each : (w : Setting) (es : List Event) (i : ℕ) (bytes : List ℕ) (p : Peers) (ds : List Deed) (said : Result Opening OpenFault)
      → ((o : Opening) → said ≡ Ok o → is_deferred (seen_of w es (events.Frame i bytes)) ≡ false → P i o.from o.seq ds)
      → EachAck P ds → EachAck P (pushed (opened_so w es i bytes p said).deeds ds)
  unfolding opened_by
  opened_each w es i bytes p ds (Err fault) earns all = all
  opened_each w es i bytes p ds (Ok o) earns all =
      answer_each w es i bytes p ds o (is_deferred (seen_of w es (events.Frame i bytes))) (earns o refl) all

-- a frame that opened and isn't to come again brings an acknowledgement alone
ack_alone : (w : Setting) (es : List Event) (i : ℕ) (bytes : List ℕ) (p : Peers) (o : Opening) → opening (w.keys i) bytes ≡ Ok o
    → is_deferred (seen_of w es (events.Frame i bytes)) ≡ false → (opened_so w es i bytes p (opening (w.keys i) bytes)).deeds ≡ Acked i o.from o.seq ∷ []
ack_alone w es i bytes p o is answered =
    ap (λ (said : Result Opening OpenFault). (opened_so w es i bytes p said).deeds) is
    ∙ ap (λ (t : Bool). (if t then nothing_more (marked_early i o.from o.seq (mark_at w (events.Frame i bytes ∷ es) i o.from) p)
    else record { deeds = Acked i o.from o.seq ∷ []; peers = p }).deeds) answered

-- ---- a round

-- of a frame, where its replica is here or not, and it is a note or not
module _ (P : ℕ → ℕ → ℕ → List Deed → Type 0) (w : Setting) (es : List Event) (to : ℕ) (bytes : List ℕ) (ws : Waiting) (p : Peers) (ds : List Deed) where
  abbrev Frames : Bool → Bool → List MadeFrame
  Frames here note = frames_made_by w es (did_so here note (event_called w es to (events.Frame to bytes) ws) ws).event

  abbrev More : Bool → Bool → Brought
  More here note = let q = keep_all w.mode.version (Frames here note) p in
      brings_so here note (noted_so w.mode.version to q (noted (w.keys to) bytes)) (opened_so w es to bytes q (opening (w.keys to) bytes)) q

  frame_each : (here note : Bool)
      → ((o : Opening) → (did_so here note (event_called w es to (events.Frame to bytes) ws) ws).event ≡ Some (events.Frame to bytes)
      → opening (w.keys to) bytes ≡ Ok o → is_deferred (seen_of w es (events.Frame to bytes)) ≡ false
      → (More here note).deeds ≡ Acked to o.from o.seq ∷ [] → P to o.from o.seq (pushed (map Made (Frames here note)) ds))
      → EachAck P ds
      → EachAck P (with_deeds (Frames here note) (More here note).deeds (did_so here note (event_called w es to (events.Frame to bytes) ws) ws).replies ds)
  frame_each false note earns all = all
  frame_each true true earns all = noted_each P w.mode.version to p (noted (w.keys to) bytes) ds all
  frame_each true false earns all =
      let fs = Frames true false in
      let q = keep_all w.mode.version fs p in
      replied_each P (event_called w es to (events.Frame to bytes) ws).replies _
      (opened_each P w es to bytes q (pushed (map Made fs) ds) (opening (w.keys to) bytes)
      (λ o is answered. earns o refl is answered (ack_alone w es to bytes q o is answered))
      (made_each P fs ds all))

round_each : (P : ℕ → ℕ → ℕ → List Deed → Type 0) (w : Setting) (past : List Event) (x : Round) (s : Serving) (ds : List Deed)
    → ((i j seq : ℕ) → Earns w past s x i j seq → P i j seq (pushed (map Made (frames_made_by w (so_far past s) (outcome w past x s).event)) ds))
    → EachAck P ds
    → EachAck P (with_deeds (frames_made_by w (so_far past s) (outcome w past x s).event) (brought w past x s).deeds (outcome w past x s).replies ds)
round_each P w past (Began item) s ds earns all =
    replied_each P (outcome w past (Began item) s).replies _ (made_each P (frames_made_by w (so_far past s) (outcome w past (Began item) s).event) ds all)
round_each P w past (Turned i) s ds earns all =
    replied_each P (outcome w past (Turned i) s).replies _ (made_each P (frames_made_by w (so_far past s) (outcome w past (Turned i) s).event) ds all)
round_each P w past (Closed i epoch) s ds earns all =
    replied_each P (outcome w past (Closed i epoch) s).replies _ (made_each P (frames_made_by w (so_far past s) (outcome w past (Closed i epoch) s).event) ds all)
round_each P w past (Reminded i j) s ds earns all = all
round_each P w past (Took (items.Frame to bytes)) s ds earns all =
    frame_each P w (so_far past s) to bytes s.waiting s.peers ds (w.is_correct to) (is_note bytes)
    (λ o called is answered alone. earns to o.from o.seq (record {
      bytes = bytes;
      item = refl;
      called = called;
      body = o.body;
      opens = is;
      taken = answered;
      alone = alone;
    })) all
round_each P w past (Took (items.Client at conn bytes)) s ds earns all =
    let x : Round = Took (items.Client at conn bytes) in
    replied_each P (outcome w past x s).replies _ (made_each P (frames_made_by w (so_far past s) (outcome w past x s).event) ds all)
round_each P w past (Took (items.Reply from bytes)) s ds earns all = all
round_each P w past (Took (items.Up at peer)) s ds earns all = up_each P w.mode.version at peer s.peers ds (w.is_correct at && nat_lt peer w.numbers.n) all
round_each P w past (Took (items.Down at peer)) s ds earns all = all
round_each P w past (Took (items.Left at conn)) s ds earns all = all
round_each P w past (Took items.End) s ds earns all = all

-- ---- groups

rounds_each : (P : ℕ → ℕ → ℕ → List Deed → Type 0) (w : Setting) (past : List Event) (s : Serving) (ds : List Deed) (whole later group : List Round)
    → whole ≡ later ++ group
    → ((news : List Round) (x : Round) (sooner : List Round) → whole ≡ news ++ x ∷ sooner → (i j seq : ℕ)
    → Earns w past (after_from w past s sooner) x i j seq
    → P i j seq (pushed (map Made (frames_made_by w (so_far past (after_from w past s sooner)) (outcome w past x (after_from w past s sooner)).event))
    (newest_deeds w past s ds sooner)))
    → EachAck P ds → EachAck P (newest_deeds w past s ds group)
rounds_each P w past s ds whole later [] is earns all = all
rounds_each P w past s ds whole later (x ∷ group) is earns all =
    round_each P w past x (after_from w past s group) (newest_deeds w past s ds group) (earns later x group is)
    (rounds_each P w past s ds whole (later ++ x ∷ []) group (is ∙ sym (append_assoc later (x ∷ []) group)) earns all)

groups_each : (w : Setting) (past : List Event) (start : Serving) (whole newer groups : List (List Round)) → whole ≡ newer ++ groups
    → EachAck (IsEarnedIn w past start whole) (deeds_from w past start [] groups)
groups_each w past start whole newer [] is = tt
groups_each w past start whole newer (group ∷ older) is =
    let P : ℕ → ℕ → ℕ → List Deed → Type 0 = IsEarnedIn w past start whole in
    let s : Serving = after_groups w past start older in
    rounds_each P w past s (came_in group ++ deeds_from w past start [] older) group [] group refl
    (λ later x sooner rounds i j seq earns. record {
      newer = newer;
      older = older;
      later = later;
      x = x;
      sooner = sooner;
      are = is ∙ ap (λ (g : List Round). newer ++ g ∷ older) rounds;
      earns = earns;
      behind = ap (λ (g : List Round).
          pushed (map Made (frames_made_by w (so_far past (after_from w past s sooner)) (outcome w past x (after_from w past s sooner)).event))
          (newest_deeds w past s (came_in g ++ deeds_from w past start [] older) sooner)) rounds;
    })
    (items_each P group (deeds_from w past start [] older) (groups_each w past start whole (newer ++ group ∷ []) older (is ∙ sym (append_assoc newer (group ∷ []) older))))

pub acks_of_rounds : AcksAreOfRounds
acks_of_rounds w past start groups = groups_each w past start groups [] groups refl
