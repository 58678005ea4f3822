-- The link's calls are the deeds, which stand in front of those before them, and what went out for the first time are the frames that the calls made.
use Rattle.std.proofs.Common.{◌≡◌, ℕ, ◌&&◌, Bool, true, false, nat_lt, List, [], ◌∷◌, ◌++◌, map, reverse, Option, Some, None, Result, Ok, Err, refl, sym, ◌∙◌, ap, ap₂, subst, append_assoc, if◌then◌else◌}
use Rattle.std.specs.List.{AllByRecursion}
use Rattle.std.proofs.lemmas.List.{append-nil, map-append, reverse-append, reverse-reverse}
use Rattle.ritas_base.specs.declared.event.Event.{Event}
use Rattle.ritas_base.specs.declared.mode.FrameVersion.{FrameVersion}
use Rattle.ritas_base.specs.declared.event.Event.TheVariants as events
use Rattle.outside.specs.declared.link.LinkItem.{LinkItem}
use Rattle.outside.specs.declared.link.LinkItem.TheVariants as items
use Rattle.outside.specs.declared.link.Sent.{Sent}
use Rattle.outside.specs.Links.{LinkAct, Replies}
use Rattle.keyed_channel.specs.KeyRow.{KeyRow}
use Rattle.keyed_channel.specs.Frames.{Opening, opening}
use Rattle.keyed_channel.specs.Notes.{is_note, noted}
use Rattle.keyed_channel.specs.declared.frame.OpenFault.{OpenFault}
use Rattle.keyed_channel.specs.declared.note.Note.{Note}
use Rattle.keyed_channel.specs.declared.note.Note.TheVariants as notes
use Rattle.link_resume.specs.declared.kept.Kept.{Kept}
use Rattle.world_model.specs.World.{Setting, seen_of}
use Rattle.world_model.specs.MadeOrder.{MadeFrame, all_made}
use Rattle.node_loop.specs.Peers.{Peers, keep_all}
use Rattle.node_loop.specs.Deeds.{Deed, Came, Made, Resent, Acked, Wished, Replied, pushed, act_of, firsts_in}
use Rattle.node_loop.specs.Resending.{Brought, is_deferred, opened_so, acked_so, asked_so, connected, noted_so, item_brings}
use Rattle.node_loop.proofs.Batching.{OnlyResends, acked_resends, asked_resends, connected_resends}
use Rattle.node_loop.specs.Serving.{Serving, so_far, as_sent, frames_made_by, sent_of, onto, Round, Began, Turned, Closed, Reminded, Took, at_call, outcome, brought, round_does, after_from}
use Rattle.node_loop.specs.Told.{given_for, given_in, news_from, after_groups, came_for, came_in, with_deeds, newest_deeds, deeds_from}
use Rattle.node_loop.specs.Laws.{ActsAreDeeds, DeedsAreBehind, FramesAreMade}
use Rattle.node_loop.proofs.InOrder.{came, round_deeds, in_order, OfAnyKind, StaysWhere, any_together}

reverse_cons : {A : Type 0} (x : A) (xs : List A) → reverse (x ∷ xs) ≡ reverse xs ++ x ∷ []
reverse_cons x xs = reverse-append (x ∷ []) xs

-- ---- the link's calls

pub map_pushed : (f : Deed → LinkAct) (xs ds : List Deed) → map f (pushed xs ds) ≡ reverse (map f xs) ++ map f ds
map_pushed f [] ds = refl
map_pushed f (x ∷ xs) ds =
    map_pushed f xs (x ∷ ds)
    ∙ (sym (append_assoc (reverse (map f xs)) (f x ∷ []) (map f ds)) ∙ ap (λ (l : List LinkAct). l ++ map f ds) (sym (reverse_cons (f x) (map f xs))))

replied_acts : (keys : ℕ → KeyRow) (rs : List Sent) → map (act_of keys) (map Replied rs) ≡ map Replies rs
replied_acts keys [] = refl
replied_acts keys (r ∷ rs) = ap (λ (l : List LinkAct). Replies r ∷ l) (replied_acts keys rs)

made_acts : (keys : ℕ → KeyRow) (fs : List MadeFrame) → map (act_of keys) (map Made fs) ≡ map as_sent fs
made_acts keys [] = refl
made_acts keys (f ∷ fs) = ap (λ (l : List LinkAct). as_sent f ∷ l) (made_acts keys fs)

pub deeds_act : (keys : ℕ → KeyRow) (fs : List MadeFrame) (more : List Deed) (rs : List Sent) (ds : List Deed)
    → map (act_of keys) (with_deeds fs more rs ds)
    ≡ reverse (map Replies rs) ++ (reverse (map (act_of keys) more) ++ (reverse (map as_sent fs) ++ map (act_of keys) ds))
deeds_act keys fs more rs ds =
    let f = act_of keys in
    map_pushed f (map Replied rs) (pushed more (pushed (map Made fs) ds))
    ∙ ap₂ (λ (a b : List LinkAct). reverse a ++ b) (replied_acts keys rs)
    (map_pushed f more (pushed (map Made fs) ds)
    ∙ ap (λ (l : List LinkAct). reverse (map f more) ++ l)
    (map_pushed f (map Made fs) ds ∙ ap (λ (l : List LinkAct). reverse l ++ map f ds) (made_acts keys fs)))

-- what goes out of a round is the same in both
news_of_round : (w : Setting) (past : List Event) (x : Round) (s : Serving)
    → sent_of w (so_far past (at_call x s)) (outcome w past x s) (brought w past x s)
    ≡ reverse (map Replies (outcome w past x s).replies) ++ (reverse (map (act_of w.keys) (brought w past x s).deeds) ++ reverse (map as_sent (frames_made_by w (so_far past s) (outcome w past x s).event)))
news_of_round w past (Began item) s = refl
news_of_round w past (Turned i) s = refl
news_of_round w past (Closed i epoch) s = refl
news_of_round w past (Reminded i j) s = refl
news_of_round w past (Took item) s = refl

three_fronts : (a b c ds : List LinkAct) → a ++ (b ++ (c ++ ds)) ≡ (a ++ (b ++ c)) ++ ds
three_fronts a b c ds = sym (append_assoc a (b ++ c) ds ∙ ap (λ (l : List LinkAct). a ++ l) (append_assoc b c ds))

round_acts : (w : Setting) (past : List Event) (x : Round) (s : Serving) (ds : List Deed)
    → map (act_of w.keys) (round_deeds w past x s ds) ≡ sent_of w (so_far past (at_call x s)) (outcome w past x s) (brought w past x s) ++ map (act_of w.keys) ds
round_acts w past x s ds =
    let frames = frames_made_by w (so_far past s) (outcome w past x s).event in
    let more = (brought w past x s).deeds in
    let replies = (outcome w past x s).replies in
    deeds_act w.keys frames more replies ds
    ∙ (three_fronts (reverse (map Replies replies)) (reverse (map (act_of w.keys) more)) (reverse (map as_sent frames)) (map (act_of w.keys) ds)
    ∙ ap (λ (l : List LinkAct). l ++ map (act_of w.keys) ds) (sym (news_of_round w past x s)))

-- what goes out of a group
news_acts : (w : Setting) (past : List Event) (start : Serving) (ds : List Deed) (group : List Round)
    → map (act_of w.keys) (newest_deeds w past start ds group) ≡ news_from w past start group ++ map (act_of w.keys) ds
news_acts w past start ds [] = refl
news_acts w past start ds (x ∷ group) =
    let s = after_from w past start group in
    let sent = sent_of w (so_far past (at_call x s)) (outcome w past x s) (brought w past x s) in
    round_acts w past x s (newest_deeds w past start ds group)
    ∙ (ap (λ (l : List LinkAct). sent ++ l) (news_acts w past start ds group) ∙ sym (append_assoc sent (news_from w past start group) (map (act_of w.keys) ds)))

-- its items
item_acts : (keys : ℕ → KeyRow) (x : Round) (group : List Round) → map (act_of keys) (came_for x group) ≡ given_for x group
item_acts keys (Began item) [] = refl
item_acts keys (Began item) (y ∷ group) = refl
item_acts keys (Turned i) [] = refl
item_acts keys (Closed i epoch) [] = refl
item_acts keys (Turned i) (y ∷ group) = refl
item_acts keys (Closed i epoch) (y ∷ group) = refl
item_acts keys (Reminded i j) [] = refl
item_acts keys (Reminded i j) (y ∷ group) = refl
item_acts keys (Took item) [] = refl
item_acts keys (Took item) (y ∷ group) = refl

pub items_acts : (keys : ℕ → KeyRow) (group : List Round) → map (act_of keys) (came_in group) ≡ given_in group
items_acts keys [] = refl
items_acts keys (x ∷ group) =
    map-append (act_of keys) (came_for x group) (came_in group) ∙ ap₂ (λ (a b : List LinkAct). a ++ b) (item_acts keys x group) (items_acts keys group)

pub acts_are : ActsAreDeeds
acts_are w past start [] = refl
acts_are w past start (group ∷ older) =
    let before = after_groups w past start older in
    let below = deeds_from w past start [] older in
    sym (news_acts w past before (came_in group ++ below) group
    ∙ ap (λ (l : List LinkAct). news_from w past before group ++ l)
    (map-append (act_of w.keys) (came_in group) below ∙ ap₂ (λ (a b : List LinkAct). a ++ b) (items_acts w.keys group) (sym (acts_are w past start older))))

-- ---- the deeds before them

pushed_behind : (xs ds e : List Deed) → pushed xs (ds ++ e) ≡ pushed xs ds ++ e
pushed_behind [] ds e = refl
pushed_behind (x ∷ xs) ds e = pushed_behind xs (x ∷ ds) e

with_behind : (frames : List MadeFrame) (more : List Deed) (replies : List Sent) (ds e : List Deed)
    → with_deeds frames more replies (ds ++ e) ≡ with_deeds frames more replies ds ++ e
with_behind frames more replies ds e =
    let made = pushed (map Made frames) ds in
    ap (pushed (map Replied replies)) (ap (pushed more) (pushed_behind (map Made frames) ds e) ∙ pushed_behind more made e)
    ∙ pushed_behind (map Replied replies) (pushed more made) e

pub newest_behind : (w : Setting) (past : List Event) (start : Serving) (ds e : List Deed) (group : List Round)
    → newest_deeds w past start (ds ++ e) group ≡ newest_deeds w past start ds group ++ e
newest_behind w past start ds e [] = refl
newest_behind w past start ds e (x ∷ group) =
    let s = after_from w past start group in
    ap (λ (l : List Deed). round_deeds w past x s l) (newest_behind w past start ds e group)
    ∙ with_behind (frames_made_by w (so_far past s) (outcome w past x s).event) (brought w past x s).deeds (outcome w past x s).replies (newest_deeds w past start ds group) e

pub deeds_behind : DeedsAreBehind
deeds_behind w past start ds [] = refl
deeds_behind w past start ds (group ∷ older) =
    let before = after_groups w past start older in
    let below = deeds_from w past start [] older in
    ap (λ (l : List Deed). newest_deeds w past before l group)
    (ap (λ (l : List Deed). came_in group ++ l) (deeds_behind w past start ds older) ∙ sym (append_assoc (came_in group) below ds))
    ∙ newest_behind w past before (came_in group ++ below) ds group

-- ---- the frames

pub firsts_made : (fs : List MadeFrame) (ds : List Deed) → firsts_in (pushed (map Made fs) ds) ≡ reverse fs ++ firsts_in ds
firsts_made [] ds = refl
firsts_made (f ∷ fs) ds =
    firsts_made fs (Made f ∷ ds)
    ∙ (sym (append_assoc (reverse fs) (f ∷ []) (firsts_in ds)) ∙ ap (λ (l : List MadeFrame). l ++ firsts_in ds) (sym (reverse_cons f fs)))

firsts_replied : (rs : List Sent) (ds : List Deed) → firsts_in (pushed (map Replied rs) ds) ≡ firsts_in ds
firsts_replied [] ds = refl
firsts_replied (r ∷ rs) ds = firsts_replied rs (Replied r ∷ ds)

-- what goes to peers besides frames of a call
abbrev pub IsBesides : Deed → Type 0
IsBesides (Resent i j frame) = Unit {0}
IsBesides (Acked i j seq) = Unit {0}
IsBesides (Wished i j seq) = Unit {0}
IsBesides deed = ⊥

firsts_besides : (more ds : List Deed) → AllByRecursion IsBesides more → firsts_in (pushed more ds) ≡ firsts_in ds
firsts_besides [] ds all = refl
firsts_besides (Came now item ∷ more) ds all = absurd all.0
firsts_besides (Made f ∷ more) ds all = absurd all.0
firsts_besides (Resent i j frame ∷ more) ds all = firsts_besides more (Resent i j frame ∷ ds) all.1
firsts_besides (Acked i j seq ∷ more) ds all = firsts_besides more (Acked i j seq ∷ ds) all.1
firsts_besides (Wished i j seq ∷ more) ds all = firsts_besides more (Wished i j seq ∷ ds) all.1
firsts_besides (Replied sent ∷ more) ds all = absurd all.0

resent_besides : (i j : ℕ) (ks : List Kept) → AllByRecursion IsBesides (map (λ k. Resent i j k.frame) ks)
resent_besides i j [] = tt
resent_besides i j (k ∷ ks) = (tt, resent_besides i j ks)

only_besides : (i j : ℕ) (brings : Brought) → OnlyResends i j brings → AllByRecursion IsBesides brings.deeds
only_besides i j brings only = subst (λ (ds : List Deed). AllByRecursion IsBesides ds) (sym only.are) (resent_besides i j only.frames)

noted_besides : (version : FrameVersion) (i : ℕ) (p : Peers) (said : Option Note) → AllByRecursion IsBesides (noted_so version i p said).deeds
noted_besides version i p None = tt
noted_besides version i p (Some (notes.Ack from seq)) = only_besides i from (acked_so version i from seq p) (acked_resends version i from seq p)
noted_besides version i p (Some (notes.Again from seq)) = only_besides i from (asked_so version i from seq p) (asked_resends version i from seq p)

one_of : (a b : Brought) (t : Bool) → AllByRecursion IsBesides a.deeds → AllByRecursion IsBesides b.deeds → AllByRecursion IsBesides (if t then a else b).deeds
one_of a b true first second = first
one_of a b false first second = second

opened_besides : (w : Setting) (es : List Event) (i : ℕ) (bytes : List ℕ) (p : Peers) (said : Result Opening OpenFault)
    → AllByRecursion IsBesides (opened_so w es i bytes p said).deeds
opened_besides w es i bytes p (Err fault) = tt
opened_besides w es i bytes p (Ok o) = one_of _ _ (is_deferred (seen_of w es (events.Frame i bytes))) tt (tt, tt)

pub item_besides : (w : Setting) (es : List Event) (item : LinkItem) (p : Peers) → AllByRecursion IsBesides (item_brings w es item p).deeds
item_besides w es (items.Frame to bytes) p =
    one_of _ _ (w.is_correct to)
    (one_of _ _ (is_note bytes) (noted_besides w.mode.version to p (noted (w.keys to) bytes)) (opened_besides w es to bytes p (opening (w.keys to) bytes)))
    tt
item_besides w es (items.Client at conn bytes) p = tt
item_besides w es (items.Reply from bytes) p = tt
item_besides w es (items.Up at peer) p = one_of _ _ (w.is_correct at && nat_lt peer w.numbers.n) (only_besides at peer (connected w.mode.version at peer p) (connected_resends w.mode.version at peer p)) tt
item_besides w es (items.Down at peer) p = tt
item_besides w es (items.Left at conn) p = tt
item_besides w es items.End p = tt

pub made_next : (w : Setting) (es : List Event) (past : List Event) (o : Option Event) → all_made w (onto o es ++ past) ≡ all_made w (es ++ past) ++ frames_made_by w (es ++ past) o
unfolding all_made
made_next w es past None = sym (append-nil (all_made w (es ++ past)))
made_next w es past (Some e) = refl

made_round : (w : Setting) (es past : List Event) (before : List MadeFrame) (o : Option Event) (more : List Deed) (rs : List Sent) (ds : List Deed) → AllByRecursion IsBesides more
    → all_made w (es ++ past) ≡ before ++ reverse (firsts_in ds)
    → all_made w (onto o es ++ past) ≡ before ++ reverse (firsts_in (with_deeds (frames_made_by w (es ++ past) o) more rs ds))
made_round w es past before o more rs ds besides so =
    let fs = frames_made_by w (es ++ past) o in
    let firsts : firsts_in (with_deeds fs more rs ds) ≡ reverse fs ++ firsts_in ds =
    firsts_replied rs (pushed more (pushed (map Made fs) ds)) ∙ (firsts_besides more (pushed (map Made fs) ds) besides ∙ firsts_made fs ds) in
    let back : reverse (firsts_in (with_deeds fs more rs ds)) ≡ reverse (firsts_in ds) ++ fs =
    ap reverse firsts ∙ (reverse-append (reverse fs) (firsts_in ds) ∙ ap (λ (l : List MadeFrame). reverse (firsts_in ds) ++ l) (reverse-reverse fs)) in
    made_next w es past o
    ∙ (ap (λ (l : List MadeFrame). l ++ fs) so
    ∙ (append_assoc before (reverse (firsts_in ds)) fs
    ∙ ap (λ (l : List MadeFrame). before ++ l) (sym back)))

frames_more : (w : Setting) (past : List Event) (before : List MadeFrame) (x : Round) (s : Serving) (ds : List Deed)
    → all_made w (so_far past s) ≡ before ++ reverse (firsts_in ds)
    → all_made w (so_far past (round_does w past x s)) ≡ before
    ++ reverse (firsts_in (with_deeds (frames_made_by w (so_far past s) (outcome w past x s).event) (brought w past x s).deeds (outcome w past x s).replies (came x ds)))
frames_more w past before (Began item) s ds so = made_round w s.events past before (outcome w past (Began item) s).event (brought w past (Began item) s).deeds (outcome w past (Began item) s).replies ds tt so
frames_more w past before (Turned i) s ds so = made_round w s.events past before (outcome w past (Turned i) s).event (brought w past (Turned i) s).deeds (outcome w past (Turned i) s).replies ds tt so
frames_more w past before (Closed i epoch) s ds so = made_round w s.events past before (outcome w past (Closed i epoch) s).event (brought w past (Closed i epoch) s).deeds (outcome w past (Closed i epoch) s).replies ds tt so
frames_more w past before (Reminded i j) s ds so = made_round w s.events past before (outcome w past (Reminded i j) s).event (brought w past (Reminded i j) s).deeds (outcome w past (Reminded i j) s).replies ds (tt, tt) so
frames_more w past before (Took item) s ds so =
    made_round w s.events past before (outcome w past (Took item) s).event (brought w past (Took item) s).deeds (outcome w past (Took item) s).replies (Came false item ∷ ds)
    (item_besides w (so_far past s) item (keep_all w.mode.version (frames_made_by w (so_far past s) (outcome w past (Took item) s).event) s.peers)) so

made_in_order : (w : Setting) (past : List Event) (start : Serving) (before : List MadeFrame) (ds : List Deed) (rounds : List Round)
    → all_made w (so_far past start) ≡ before ++ reverse (firsts_in ds)
    → all_made w (so_far past (after_from w past start rounds)) ≡ before ++ reverse (firsts_in (in_order w past start ds rounds))
made_in_order w past start before ds [] so = so
made_in_order w past start before ds (x ∷ rounds) so =
    frames_more w past before x (after_from w past start rounds) (in_order w past start ds rounds) (made_in_order w past start before ds rounds so)

-- ---- groups

-- the frames that went out for the first time are the same where items come sooner
abbrev HaveOneFirsts : List Deed → List Deed → Type 0
HaveOneFirsts a b = firsts_in a ≡ firsts_in b

firsts_more : (d : Deed) (a b : List Deed) → firsts_in a ≡ firsts_in b → firsts_in (d ∷ a) ≡ firsts_in (d ∷ b)
firsts_more (Came now item) a b same = same
firsts_more (Made f) a b same = ap (λ (l : List MadeFrame). f ∷ l) same
firsts_more (Resent i j frame) a b same = same
firsts_more (Acked i j seq) a b same = same
firsts_more (Wished i j seq) a b same = same
firsts_more (Replied sent) a b same = same

firsts_sooner : (now : Bool) (item : LinkItem) (d : Deed) (ds : List Deed) → firsts_in (Came now item ∷ d ∷ ds) ≡ firsts_in (d ∷ Came now item ∷ ds)
firsts_sooner now item (Came other one) ds = refl
firsts_sooner now item (Made f) ds = refl
firsts_sooner now item (Resent i j frame) ds = refl
firsts_sooner now item (Acked i j seq) ds = refl
firsts_sooner now item (Wished i j seq) ds = refl
firsts_sooner now item (Replied sent) ds = refl

firsts_stay : StaysWhere OfAnyKind HaveOneFirsts
firsts_stay = record {
  itself = λ ds. refl;
  through = λ a b c first second. first ∙ second;
  behind = firsts_more;
  either_call = λ now later item ds. refl;
  sooner = λ now item d ds kind. firsts_sooner now item d ds;
}

pub are_made : FramesAreMade
are_made w past start before ds [] so = so
are_made w past start before ds (group ∷ older) so =
    let s = after_groups w past start older in
    let below = deeds_from w past start ds older in
    made_in_order w past s before below group (are_made w past start before ds older so)
    ∙ ap (λ (l : List MadeFrame). before ++ reverse l)
    (any_together HaveOneFirsts firsts_stay w past s below group)
