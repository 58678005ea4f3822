-- An acknowledgement goes out only after its frame.
use Rattle.std.proofs.Common.{◌≡◌, ℕ, ◌&&◌, Bool, true, false, nat_lt, List, [], ◌∷◌, ◌++◌, map, reverse, Option, Some, None, Result, Ok, Err, refl, sym, ◌∙◌, ap, subst, append_assoc, ◌⊎◌, inl, inr, if◌then◌else◌}
use Rattle.std.proofs.lemmas.List.{reverse-append}
use Rattle.ritas_base.specs.declared.event.Event.{Event}
use Rattle.ritas_base.specs.declared.mode.FrameVersion.{FrameVersion}
use Rattle.ritas_base.specs.declared.event.Event.TheVariants as events
use Rattle.outside.specs.declared.link.LinkItem.{LinkItem}
use Rattle.outside.specs.declared.link.LinkItem.TheVariants as items
use Rattle.outside.specs.declared.link.Sent.{Sent}
use Rattle.keyed_channel.specs.Frames.{Opening, opening}
use Rattle.keyed_channel.specs.Notes.{is_note, noted}
use Rattle.keyed_channel.specs.declared.frame.OpenFault.{OpenFault}
use Rattle.keyed_channel.specs.declared.note.Note.{Note}
use Rattle.keyed_channel.specs.declared.note.Note.TheVariants as notes
use Rattle.link_resume.specs.declared.kept.Kept.{Kept}
use Rattle.layer_api.specs.Service.{IsPart}
use Rattle.world_model.specs.World.{Setting, seen_of}
use Rattle.node_loop.specs.Resending.{mark_at}
use Rattle.world_model.specs.MadeOrder.{MadeFrame}
use Rattle.node_loop.specs.Waiting.{Waiting}
use Rattle.node_loop.specs.Calls.{Outcome, event_called, item_does, first_does, epoch_closed}
use Rattle.node_loop.specs.Peers.{Peers, keep_all, marked_early}
use Rattle.node_loop.specs.Deeds.{Deed, Came, Made, Resent, Acked, Wished, Replied, pushed}
use Rattle.node_loop.specs.Resending.{Brought, nothing_more, is_deferred, opened_so, acked_so, asked_so, connected, noted_so}
use Rattle.node_loop.specs.Serving.{Serving, so_far, onto, Round, Began, Turned, Closed, Reminded, Took, frames_made_by, outcome, brought, round_does, after_from}
use Rattle.node_loop.specs.Told.{after_groups, with_deeds, deeds_from}
use Rattle.node_loop.specs.Laws.{IsEarned, AreEarned, AcksAreEarned}
use Rattle.node_loop.proofs.Batching.{OnlyResends, acked_resends, asked_resends, connected_resends}
use Rattle.node_loop.proofs.InOrder.{came, in_order, OfAnyKind, StaysWhere, any_together}
use Rattle.node_loop.proofs.Reopening.{did_so, brings_so}

pushed_is : (xs ds : List Deed) → pushed xs ds ≡ reverse xs ++ ds
pushed_is [] ds = refl
pushed_is (x ∷ xs) ds =
    pushed_is xs (x ∷ ds)
    ∙ (sym (append_assoc (reverse xs) (x ∷ []) ds) ∙ ap (λ (l : List Deed). l ++ ds) (sym (reverse-append (x ∷ []) xs)))

part_more : (front xs ys : List Event) → IsPart xs ys → IsPart xs (front ++ ys)
part_more front xs ys part = (front ++ part.0, append_assoc front part.0 xs ∙ ap (λ (l : List Event). front ++ l) part.1)

-- more events change nothing
earned_later : (w : Setting) (es : List Event) (o : Option Event) (ds : List Deed) → AreEarned w es ds → AreEarned w (onto o es) ds
earned_later w es None ds all = all
earned_later w es (Some e) [] all = tt
earned_later w es (Some e) (Came now item ∷ ds) all = earned_later w es (Some e) ds all
earned_later w es (Some e) (Made f ∷ ds) all = earned_later w es (Some e) ds all
earned_later w es (Some e) (Resent i j frame ∷ ds) all = earned_later w es (Some e) ds all
earned_later w es (Some e) (Acked i j seq ∷ ds) all = (
  record {
    bytes = all.0.bytes;
    before = all.0.before;
    newer = all.0.newer;
    older = all.0.older;
    now = all.0.now;
    came = all.0.came;
    called = part_more (e ∷ []) (events.Frame i all.0.bytes ∷ all.0.before) es all.0.called;
    body = all.0.body;
    opens = all.0.opens;
    taken = all.0.taken;
  },
  earned_later w es (Some e) ds all.1,
)
earned_later w es (Some e) (Wished i j seq ∷ ds) all = earned_later w es (Some e) ds all
earned_later w es (Some e) (Replied sent ∷ ds) all = earned_later w es (Some e) ds all

-- what is no acknowledgement changes nothing
made_earned : (w : Setting) (es : List Event) (fs : List MadeFrame) (ds : List Deed) → AreEarned w es ds → AreEarned w es (pushed (map Made fs) ds)
made_earned w es [] ds all = all
made_earned w es (f ∷ fs) ds all = made_earned w es fs (Made f ∷ ds) all

replied_earned : (w : Setting) (es : List Event) (rs : List Sent) (ds : List Deed) → AreEarned w es ds → AreEarned w es (pushed (map Replied rs) ds)
replied_earned w es [] ds all = all
replied_earned w es (r ∷ rs) ds all = replied_earned w es rs (Replied r ∷ ds) all

resent_earned : (w : Setting) (es : List Event) (i j : ℕ) (ks : List Kept) (ds : List Deed) → AreEarned w es ds
    → AreEarned w es (pushed (map (λ k. Resent i j k.frame) ks) ds)
resent_earned w es i j [] ds all = all
resent_earned w es i j (k ∷ ks) ds all = resent_earned w es i j ks (Resent i j k.frame ∷ ds) all

only_earned : (w : Setting) (es : List Event) (i j : ℕ) (brings : Brought) (ds : List Deed) → OnlyResends i j brings → AreEarned w es ds → AreEarned w es (pushed brings.deeds ds)
only_earned w es i j brings ds only all = subst (λ (more : List Deed). AreEarned w es (pushed more ds)) (sym only.are) (resent_earned w es i j only.frames ds all)

noted_earned : (w : Setting) (es : List Event) (version : FrameVersion) (i : ℕ) (p : Peers) (said : Option Note) (ds : List Deed) → AreEarned w es ds
    → AreEarned w es (pushed (noted_so version i p said).deeds ds)
noted_earned w es version i p None ds all = all
noted_earned w es version i p (Some (notes.Ack from seq)) ds all = only_earned w es i from (acked_so version i from seq p) ds (acked_resends version i from seq p) all
noted_earned w es version i p (Some (notes.Again from seq)) ds all = only_earned w es i from (asked_so version i from seq p) ds (asked_resends version i from seq p) all

-- a frame that opened, and whose call is the newest event
ack_earned : (w : Setting) (es : List Event) (i : ℕ) (bytes : List ℕ) (fs : List MadeFrame) (ds : List Deed) (o : Opening)
    → opening (w.keys i) bytes ≡ Ok o → is_deferred (seen_of w es (events.Frame i bytes)) ≡ false
    → IsEarned w (events.Frame i bytes ∷ es) i o.from o.seq (pushed (map Made fs) (Came false (items.Frame i bytes) ∷ ds))
ack_earned w es i bytes fs ds o is answered = record {
  bytes = bytes;
  before = es;
  newer = reverse (map Made fs);
  older = ds;
  now = false;
  came = pushed_is (map Made fs) (Came false (items.Frame i bytes) ∷ ds);
  called = ([], refl);
  body = o.body;
  opens = is;
  taken = answered;
}

opened_by : (w : Setting) (es : List Event) (i : ℕ) (bytes : List ℕ) (p : Peers) (o : Opening) → Bool → Brought
opened_by w es i bytes p o t = if t
    then nothing_more (marked_early i o.from o.seq (mark_at w (events.Frame i bytes ∷ es) i o.from) p)
    else record { deeds = Acked i o.from o.seq ∷ []; peers = p }

answer_earned : (w : Setting) (es : List Event) (i : ℕ) (bytes : List ℕ) (p : Peers) (fs : List MadeFrame) (ds : List Deed) (o : Opening) (t : Bool)
    → opening (w.keys i) bytes ≡ Ok o → is_deferred (seen_of w es (events.Frame i bytes)) ≡ t
    → AreEarned w (events.Frame i bytes ∷ es) ds
    → AreEarned w (events.Frame i bytes ∷ es) (pushed (opened_by w es i bytes p o t).deeds (pushed (map Made fs) (Came false (items.Frame i bytes) ∷ ds)))
unfolding opened_by
answer_earned w es i bytes p fs ds o true is answered all = made_earned w (events.Frame i bytes ∷ es) fs (Came false (items.Frame i bytes) ∷ ds) all
answer_earned w es i bytes p fs ds o false is answered all =
    (ack_earned w es i bytes fs ds o is answered, made_earned w (events.Frame i bytes ∷ es) fs (Came false (items.Frame i bytes) ∷ ds) all)

opened_earned : (w : Setting) (es : List Event) (i : ℕ) (bytes : List ℕ) (p : Peers) (fs : List MadeFrame) (ds : List Deed) (said : Result Opening OpenFault)
    → opening (w.keys i) bytes ≡ said → AreEarned w (events.Frame i bytes ∷ es) ds
    → AreEarned w (events.Frame i bytes ∷ es) (pushed (opened_so w es i bytes p said).deeds (pushed (map Made fs) (Came false (items.Frame i bytes) ∷ ds)))
unfolding opened_by
opened_earned w es i bytes p fs ds (Err fault) is all = made_earned w (events.Frame i bytes ∷ es) fs (Came false (items.Frame i bytes) ∷ ds) all
opened_earned w es i bytes p fs ds (Ok o) is all =
    answer_earned w es i bytes p fs ds o (is_deferred (seen_of w es (events.Frame i bytes))) is refl all

-- ---- rounds

abbrev FrameEarned : Setting → List Event → List Event → ℕ → List ℕ → Waiting → Peers → List Deed → Bool → Bool → Type 0
FrameEarned w now past to bytes ws p ds here note =
    let es = now ++ past in
    let did = did_so here note (event_called w es to (events.Frame to bytes) ws) ws in
    let fs = frames_made_by w es did.event in
    let q = keep_all w.mode.version fs p in
    let more = brings_so here note (noted_so w.mode.version to q (noted (w.keys to) bytes)) (opened_so w es to bytes q (opening (w.keys to) bytes)) q in
    AreEarned w (onto did.event now ++ past) (with_deeds fs more.deeds did.replies (Came false (items.Frame to bytes) ∷ ds))

frame_earned : (w : Setting) (now past : List Event) (to : ℕ) (bytes : List ℕ) (ws : Waiting) (p : Peers) (ds : List Deed) (here note : Bool)
    → AreEarned w (now ++ past) ds → FrameEarned w now past to bytes ws p ds here note
frame_earned w now past to bytes ws p ds false note all = all
frame_earned w now past to bytes ws p ds true true all = noted_earned w (now ++ past) w.mode.version to p (noted (w.keys to) bytes) (Came false (items.Frame to bytes) ∷ ds) all
frame_earned w now past to bytes ws p ds true false all =
    let es = now ++ past in
    let did = event_called w es to (events.Frame to bytes) ws in
    let fs = frames_made_by w es did.event in
    replied_earned w (events.Frame to bytes ∷ es) did.replies _
    (opened_earned w es to bytes (keep_all w.mode.version fs p) fs ds (opening (w.keys to) bytes) refl (earned_later w es (Some (events.Frame to bytes)) ds all))

onto_past : (o : Option Event) (now past : List Event) → onto o now ++ past ≡ onto o (now ++ past)
onto_past None now past = refl
onto_past (Some e) now past = refl

-- its frames and its replies alone
plain_earned : (w : Setting) (now past : List Event) (did : Outcome) (ds : List Deed) → AreEarned w (now ++ past) ds
    → AreEarned w (onto did.event now ++ past) (with_deeds (frames_made_by w (now ++ past) did.event) [] did.replies ds)
plain_earned w now past did ds all =
    replied_earned w (onto did.event now ++ past) did.replies _
    (made_earned w (onto did.event now ++ past) (frames_made_by w (now ++ past) did.event) ds
    (subst (λ (es : List Event). AreEarned w es ds) (sym (onto_past did.event now past)) (earned_later w (now ++ past) did.event ds all)))

up_earned : (w : Setting) (es : List Event) (version : FrameVersion) (at peer : ℕ) (p : Peers) (ds : List Deed) (b : Bool) → AreEarned w es ds
    → AreEarned w es (pushed (if b then connected version at peer p else nothing_more p).deeds ds)
up_earned w es version at peer p ds true all = only_earned w es at peer (connected version at peer p) ds (connected_resends version at peer p) all
up_earned w es version at peer p ds false all = all

round_earned : (w : Setting) (past : List Event) (x : Round) (s : Serving) (ds : List Deed) → AreEarned w (so_far past s) ds
    → AreEarned w (so_far past (round_does w past x s))
    (with_deeds (frames_made_by w (so_far past s) (outcome w past x s).event) (brought w past x s).deeds (outcome w past x s).replies (came x ds))
round_earned w past (Began item) s ds all = plain_earned w s.events past (first_does w (so_far past s) item s.waiting) ds all
round_earned w past (Turned i) s ds all = plain_earned w s.events past (event_called w (so_far past s) i (events.Turn i) s.waiting) ds all
round_earned w past (Closed i epoch) s ds all = plain_earned w s.events past (epoch_closed w (so_far past s) i epoch s.waiting) ds all
round_earned w past (Reminded i j) s ds all = all
round_earned w past (Took (items.Frame to bytes)) s ds all =
    frame_earned w s.events past to bytes s.waiting s.peers ds (w.is_correct to) (is_note bytes) all
round_earned w past (Took (items.Client at conn bytes)) s ds all =
    plain_earned w s.events past (item_does w (so_far past s) (items.Client at conn bytes) s.waiting) (Came false (items.Client at conn bytes) ∷ ds) all
round_earned w past (Took (items.Reply from bytes)) s ds all = all
round_earned w past (Took (items.Up at peer)) s ds all =
    up_earned w (so_far past s) w.mode.version at peer s.peers (Came false (items.Up at peer) ∷ ds) (w.is_correct at && nat_lt peer w.numbers.n) all
round_earned w past (Took (items.Down at peer)) s ds all = all
round_earned w past (Took (items.Left at conn)) s ds all = all
round_earned w past (Took items.End) s ds all = all

earned_in_order : (w : Setting) (past : List Event) (start : Serving) (ds : List Deed) (rounds : List Round) → AreEarned w (so_far past start) ds
    → AreEarned w (so_far past (after_from w past start rounds)) (in_order w past start ds rounds)
earned_in_order w past start ds [] all = all
earned_in_order w past start ds (x ∷ rounds) all =
    round_earned w past x (after_from w past start rounds) (in_order w past start ds rounds) (earned_in_order w past start ds rounds all)

-- ---- groups

-- the item came by one of these deeds
abbrev IsComing : LinkItem → Deed → Type 0
IsComing item d = (now : Bool) × (d ≡ Came now item)

abbrev HasCome : LinkItem → List Deed → Type 0
HasCome item [] = ⊥
HasCome item (d ∷ ds) = IsComing item d ⊎ HasCome item ds

come_behind : (item : LinkItem) (d : Deed) (a b : List Deed) → (HasCome item a → HasCome item b) → HasCome item (d ∷ a) → HasCome item (d ∷ b)
come_behind item d a b f (inl here) = inl here
come_behind item d a b f (inr behind) = inr (f behind)

come_either : (item other : LinkItem) (now later : Bool) (ds : List Deed) → HasCome item (Came now other ∷ ds) → HasCome item (Came later other ∷ ds)
come_either item other now later ds (inl here) = inl (later, let same : other ≡ item = cc here.1 in ap (λ (x : LinkItem). Came later x) same)
come_either item other now later ds (inr behind) = inr behind

come_sooner : (item other : LinkItem) (now : Bool) (d : Deed) (ds : List Deed) → HasCome item (Came now other ∷ d ∷ ds) → HasCome item (d ∷ Came now other ∷ ds)
come_sooner item other now d ds (inl here) = inr (inl here)
come_sooner item other now d ds (inr (inl here)) = inl here
come_sooner item other now d ds (inr (inr behind)) = inr (inr behind)

-- what stands before and behind it
come_from : (item : LinkItem) (now : Bool) (newer older : List Deed) → HasCome item (newer ++ Came now item ∷ older)
come_from item now [] older = inl (now, refl)
come_from item now (d ∷ newer) older = inr (come_from item now newer older)

record Place (item : LinkItem) (ds : List Deed) : Type 0 where
  newer : List Deed
  older : List Deed
  now : Bool
  came : ds ≡ newer ++ Came now item ∷ older

come_at : (item : LinkItem) (ds : List Deed) → HasCome item ds → Place item ds
come_at item [] has = absurd has
come_at item (d ∷ ds) (inl here) = record { newer = []; older = ds; now = here.0; came = ap (λ (x : Deed). x ∷ ds) here.1 }
come_at item (d ∷ ds) (inr behind) =
    let place = come_at item ds behind in
    record { newer = d ∷ place.newer; older = place.older; now = place.now; came = ap (λ (l : List Deed). d ∷ l) place.came }

-- what came and what is earned by the ones came and is earned by the others
record StayEarned (a b : List Deed) : Type 0 where
  come : (item : LinkItem) → HasCome item a → HasCome item b
  earned : (w : Setting) (es : List Event) → AreEarned w es a → AreEarned w es b

earned_by : (w : Setting) (es : List Event) (i j seq : ℕ) (a b : List Deed) → ((item : LinkItem) → HasCome item a → HasCome item b)
    → IsEarned w es i j seq a → IsEarned w es i j seq b
earned_by w es i j seq a b come is =
    let item = items.Frame i is.bytes in
    let had : HasCome item a = subst (λ (l : List Deed). HasCome item l) (sym is.came) (come_from item is.now is.newer is.older) in
    let place = come_at item b (come item had) in
    record {
      bytes = is.bytes;
      before = is.before;
      newer = place.newer;
      older = place.older;
      now = place.now;
      came = place.came;
      called = is.called;
      body = is.body;
      opens = is.opens;
      taken = is.taken;
    }

more_earned : (d : Deed) (a b : List Deed) → StayEarned a b → (w : Setting) (es : List Event) → AreEarned w es (d ∷ a) → AreEarned w es (d ∷ b)
more_earned (Came now item) a b stay w es all = stay.earned w es all
more_earned (Made f) a b stay w es all = stay.earned w es all
more_earned (Resent i j frame) a b stay w es all = stay.earned w es all
more_earned (Acked i j seq) a b stay w es all = (earned_by w es i j seq a b stay.come all.0, stay.earned w es all.1)
more_earned (Wished i j seq) a b stay w es all = stay.earned w es all
more_earned (Replied sent) a b stay w es all = stay.earned w es all

sooner_earned : (now : Bool) (item : LinkItem) (d : Deed) (ds : List Deed) (w : Setting) (es : List Event) → AreEarned w es (Came now item ∷ d ∷ ds)
    → AreEarned w es (d ∷ Came now item ∷ ds)
sooner_earned now item (Came other one) ds w es all = all
sooner_earned now item (Made f) ds w es all = all
sooner_earned now item (Resent i j frame) ds w es all = all
sooner_earned now item (Acked i j seq) ds w es all = (earned_by w es i j seq ds (Came now item ∷ ds) (λ other has. inr has) all.0, all.1)
sooner_earned now item (Wished i j seq) ds w es all = all
sooner_earned now item (Replied sent) ds w es all = all

earned_stay : StaysWhere OfAnyKind StayEarned
earned_stay = record {
  itself = λ ds. record { come = λ item has. has; earned = λ w es all. all };
  through = λ a b c first second. record {
    come = λ item has. second.come item (first.come item has);
    earned = λ w es all. second.earned w es (first.earned w es all);
  };
  behind = λ d a b stay. record { come = λ item. come_behind item d a b (stay.come item); earned = more_earned d a b stay };
  either_call = λ now later item ds. record { come = λ other. come_either other item now later ds; earned = λ w es all. all };
  sooner = λ now item d ds kind. record { come = λ other. come_sooner other item now d ds; earned = sooner_earned now item d ds };
}

pub are_earned : AcksAreEarned
are_earned w past start ds [] all = all
are_earned w past start ds (group ∷ older) all =
    let s = after_groups w past start older in
    let below = deeds_from w past start ds older in
    (any_together StayEarned earned_stay w past s below group).earned w (so_far past (after_from w past s group))
    (earned_in_order w past s below group (are_earned w past start ds older all))
