-- An event that a journal kept happens again.
use Rattle.std.proofs.Common.{◌≡◌, ℕ, ◌+◌, ◌<◌, Bool, true, false, List, [], ◌∷◌, ◌++◌, length, map, reverse, take, Option, Some, None, refl, sym, ap, ap₂, ◌∙◌, subst, get_or, if◌then◌else◌}
use Rattle.std.proofs.lemmas.List.{map_more, take_more, reverse-append}
use Rattle.ritas_base.specs.declared.event.Event.{Event}
use Rattle.ritas_base.specs.declared.event.Event.TheVariants as events
use Rattle.keyed_channel.specs.KeyRow.{KeyRow}
use Rattle.link_resume.specs.declared.kept.Kept.{Kept}
use Rattle.ritas_base.specs.declared.mode.FrameVersion.{FrameVersion}
use Rattle.link_resume.specs.Lists.{Keepings, most_kept, room_for, with_room, with_list as list_set}
use Rattle.replica.specs.Out.{OutFrame}
use Rattle.ritas_core.specs.Stands.{Meaning}
use Rattle.schedule_file.specs.Spelling.{IsAlone}
use Rattle.world_model.specs.World.{Setting, seen_of}
use Rattle.world_model.specs.declared.seen.Seen.{Seen}
use Rattle.world_model.specs.Agree.{rows_at}
use Rattle.world_model.specs.MadeOrder.{MadeFrame}
use Rattle.node_loop.specs.declared.house.House.{House}
use Rattle.node_loop.specs.Calls.{waiting_left_by, refusal_in, submitted_so}
use Rattle.node_loop.specs.Laws.{IsServed}
use Rattle.node_loop.specs.Peers.{Peers, is_pair, with_list, keeps}
use Rattle.node_loop.specs.PeersStanding.{AreKept, made_as}
use Rattle.node_loop.specs.Recalling.{waits_unless, waits_again}
use Rattle.node_loop.specs.Recovering.{keep_newest, all_newest, recalled}
use Rattle.node_loop.specs.Serving.{frames_made_by, sent_by}
use Rattle.node_loop.specs.Standing.{HouseStands, frame_by}
use Rattle.node_loop.specs.Waiting.{Waiting}
use Rattle.node_loop.proofs.Keeping.{pair_same, one_list}
use Rattle.node_loop.proofs.KeptFrames.{Put, put_all, same_put}

-- the next event stands in front of those before it
pub turned_next : (es : List Event) (i : ℕ) (e : Event) → i < length es → e ≡ get_or es i e → reverse (take (i + 1) es) ≡ e ∷ reverse (take i es)
turned_next es i e lt is =
    ap (λ (l : List Event). reverse l) (take_more es i e lt ∙ ap (λ (y : Event). take i es ++ y ∷ []) (sym is)) ∙ reverse-append (take i es) (e ∷ [])

-- ---- an event that is served

pub served_alone : (w : Setting) (e : Event) → IsServed w e → ((me : ℕ) → IsAlone me e → ⊥) → ⊥
served_alone w (events.Frame to bytes) served none = none to refl
served_alone w (events.Input at bytes) served none = none at refl
served_alone w (events.Turn at) served none = none at refl
served_alone w (events.Pass from to m) served none = served
served_alone w (events.Sealed from to body) served none = served

pub served_here : (w : Setting) (e : Event) (at : ℕ) → IsServed w e → IsAlone at e → w.is_correct at ≡ true
served_here w (events.Frame to bytes) at served alone = ap w.is_correct (sym alone) ∙ served.0
served_here w (events.Input to bytes) at served alone = ap w.is_correct (sym alone) ∙ served.0
served_here w (events.Turn to) at served alone = ap w.is_correct (sym alone) ∙ served
served_here w (events.Pass from to m) at served alone = absurd served
served_here w (events.Sealed from to body) at served alone = absurd served

-- ---- who waits

input_waits : (w : Setting) (es : List Event) (at : ℕ) (bytes : List ℕ) (ws : Waiting) (o : Option ℕ)
    → (submitted_so w es at None bytes ws o).waiting ≡ waiting_left_by at (length (rows_at w es at)) (rows_at w (events.Input at bytes ∷ es) at) (waits_unless o at bytes ws)
input_waits w es at bytes ws (Some code) = refl
input_waits w es at bytes ws None = refl

recalled_waits : (w : Setting) (es : List Event) (e : Event) (at : ℕ) (ws : Waiting) → IsAlone at e
    → (recalled w es e ws).waiting ≡ waiting_left_by at (length (rows_at w es at)) (rows_at w (e ∷ es) at) (waits_again e (seen_of w es e) ws)
recalled_waits w es (events.Frame to bytes) at ws alone =
    ap (λ (i : ℕ). waiting_left_by i (length (rows_at w es i)) (rows_at w (events.Frame to bytes ∷ es) i) ws) alone
recalled_waits w es (events.Input to bytes) at ws alone =
    let e : Event = events.Input to bytes in
    input_waits w es to bytes ws (refusal_in (seen_of w es e))
    ∙ ap (λ (i : ℕ). waiting_left_by i (length (rows_at w es i)) (rows_at w (e ∷ es) i) (waits_again e (seen_of w es e) ws)) alone
recalled_waits w es (events.Turn to) at ws alone =
    ap (λ (i : ℕ). waiting_left_by i (length (rows_at w es i)) (rows_at w (events.Turn to ∷ es) i) ws) alone
recalled_waits w es (events.Pass from to m) at ws alone = absurd alone
recalled_waits w es (events.Sealed from to body) at ws alone = absurd alone

-- its rows came in
pub happened : {S E C : Type 0} (m : Meaning S E C KeyRow) (w : Setting) (es : List Event) (numbers : List ℕ) (house : House S E C) (e : Event) (at out count : ℕ) (seen : Seen) (ws : Waiting) (p : Peers)
    → IsAlone at e → out ≡ at → count ≡ length (rows_at w es at) → seen ≡ seen_of w es e
    → HouseStands m w (e ∷ es) numbers house (waiting_left_by out count (rows_at w (e ∷ es) out) (waits_again e seen ws)) p
    → HouseStands m w (e ∷ es) numbers house (recalled w es e ws).waiting p
happened m w es numbers house e at out count seen ws p alone out_is count_is seen_is stands =
    subst (λ (us : Waiting). HouseStands m w (e ∷ es) numbers house us p)
    (ap (λ (i : ℕ). waiting_left_by i count (rows_at w (e ∷ es) i) (waits_again e seen ws)) out_is
    ∙ (ap (λ (n : ℕ). waiting_left_by at n (rows_at w (e ∷ es) at) (waits_again e seen ws)) count_is
    ∙ (ap (λ (s : Seen). waiting_left_by at (length (rows_at w es at)) (rows_at w (e ∷ es) at) (waits_again e s ws)) seen_is
    ∙ sym (recalled_waits w es e at ws alone))))
    stands

-- ---- with each frame the oldest make room

abbrev pub newest : FrameVersion → Put
newest version frame kept = keeps version frame (room_for (most_kept version) (length frame) kept)

pub all_put_newest : (version : FrameVersion) (fs : List MadeFrame) (p : Peers) → put_all (newest version) fs p ≡ all_newest version fs p
all_put_newest version [] p = refl
all_put_newest version (f ∷ fs) p = all_put_newest version fs (keep_newest version f p)

pub same_newest : (w : Setting) (es : List Event) (e : Option Event) (k at : ℕ) (frames : List OutFrame) (p : Peers) → map (frame_by at) frames ≡ sent_by w es e
    → all_newest w.mode.version (map (made_as k at) frames) p ≡ all_newest w.mode.version (frames_made_by w es e) p
same_newest w es e k at frames p is =
    let v = w.mode.version in
    sym (all_put_newest v (map (made_as k at) frames) p) ∙ (same_put (newest v) w es e k at frames p is ∙ all_put_newest v (frames_made_by w es e) p)

newest_last : (version : FrameVersion) (fs : List MadeFrame) (f : MadeFrame) (p : Peers) → all_newest version (fs ++ f ∷ []) p ≡ keep_newest version f (all_newest version fs p)
newest_last version [] f p = refl
newest_last version (g ∷ fs) f p = newest_last version fs f (keep_newest version g p)

-- the next one is kept
pub newest_next : (version : FrameVersion) (event at : ℕ) (xs : List OutFrame) (i : ℕ) (x : OutFrame) (p : Peers) → i < length xs → x ≡ get_or xs i x
    → all_newest version (map (made_as event at) (take (i + 1) xs)) p ≡ keep_newest version (made_as event at x) (all_newest version (map (made_as event at) (take i xs)) p)
newest_next version event at xs i x p lt is =
    ap (λ (l : List MadeFrame). all_newest version l p) (map_more (made_as event at) xs i x lt
    ∙ ap (λ (y : OutFrame). map (made_as event at) (take i xs) ++ made_as event at y ∷ []) (sym is))
    ∙ newest_last version (map (made_as event at) (take i xs)) (made_as event at x) p

-- room was made for a peer
pub room_made : (version : FrameVersion) (n i peer size : ℕ) (kept now : Keepings) (p : Peers) → AreKept version n i kept p.keeping → peer < n
    → now ≡ with_room kept peer size → AreKept version n i now (with_list i peer (room_for (most_kept version) size (p.keeping i peer)) p).keeping
room_made version n i peer size kept now p are here is =
    subst (λ (k : Keepings). AreKept version n i k (with_list i peer (room_for (most_kept version) size (p.keeping i peer)) p).keeping)
    (ap₂ (λ (limit : Option ℕ) (ks : List Kept). list_set kept peer (room_for limit size ks)) (sym are.limit) (sym (are.each peer here)) ∙ sym is)
    (one_list version n i peer (room_for (most_kept version) size (p.keeping i peer)) kept p are here)

twice : (b : Bool) (x y z : List Kept) → (if b then x else (if b then y else z)) ≡ (if b then x else z)
twice true x y z = refl
twice false x y z = refl

-- and a frame was kept in it
pub kept_in_room : (version : FrameVersion) (n i peer : ℕ) (frame : List ℕ) (room : List Kept) (kept : Keepings) (p : Peers)
    → AreKept version n i kept (with_list i peer (keeps version frame ((with_list i peer room p).keeping i peer)) (with_list i peer room p)).keeping
    → AreKept version n i kept (with_list i peer (keeps version frame room) p).keeping
kept_in_room version n i peer frame room kept p are = record {
  limit = are.limit;
  many = are.many;
  each = λ j within. are.each j within
      ∙ (ap (λ (b : Bool). if is_pair i peer i j then keeps version frame (if b then room else p.keeping i peer) else (if is_pair i peer i j then room else p.keeping i j)) (pair_same i peer)
      ∙ twice (is_pair i peer i j) (keeps version frame room) room (p.keeping i j));
}
