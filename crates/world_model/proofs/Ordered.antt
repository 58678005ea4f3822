-- The order in which frames were made: the places of all that were, each looked up in the table.
use Rattle.std.proofs.Common.{◌≡◌, ℕ, ◌+◌, ◌*◌, ◌<◌, true, List, [], ◌∷◌, ◌++◌, length, map, Option, Some, None, refl, sym, ◌∙◌, ap, ap₂, subst, inl, inr, append_assoc, append-nil, slice_index_or, slice_set}
use Rattle.std.specs.List.{slice_get}
use Rattle.std.specs.Option.{option_map}
use Rattle.std.proofs.lemmas.Bool.{cases_lt}
use Rattle.std.proofs.lemmas.Bool.Decides.{eqb_tells}
use Rattle.std.proofs.lemmas.List.{get_or-set_same, get_or-set_other, map-append, set_past}
use Rattle.std.proofs.lemmas.List.Elements.{All-head, All-tail}
use Rattle.std.proofs.lemmas.Option.{slice_get-map, slice_get_within}
use Rattle.ritas_core.specs.Machine.{CoreState}
use Rattle.replica.specs.Laws.{MadeByEntry}
use Rattle.replica.specs.Out.{OutFrame}
use Rattle.world_model.specs.declared.order.Place.{Place}
use Rattle.world_model.specs.declared.seats.Seats.{Seats}
use Rattle.world_model.specs.World.{Setting, CallAt, handled_at}
use Rattle.world_model.specs.MadeOrder.{MadeFrame, frames_of_call}
use Rattle.world_model.specs.FramesMade.{MadeTable, IsSquare, IsOrderOf, made_in, made_at, frame_placed, placed_if, next_place, with_frame, with_frames}
use Rattle.world_model.specs.Stands.{SeatsStand, FramesStand}
use Rattle.world_model.specs.Steps.{frames_out}
use Rattle.world_model.specs.Watch.{IsAt}
use Rattle.world_model.proofs.Numbered.{get_before, get_last}
use Rattle.world_model.proofs.Tables.{AreBelow, place_within, square_more}
use Rattle.world_model.proofs.TableAfter.{out_below}

-- ---- a look-up in a table that has one frame more

-- what stands in a list stands there still when a frame goes to the back of a list
still_there : (lists : List (List (List ℕ))) (p k m : ℕ) (x y : List ℕ) → slice_get (slice_index_or lists k []) m ≡ Some y →
    slice_get (slice_index_or (slice_set lists p (slice_index_or lists p [] ++ x ∷ [])) k []) m ≡ Some y
still_there lists p k m x y there =
    let list = slice_index_or lists p [] in
    elim (eqb_tells k p) [
      | inl same ↦
          let here : slice_get list m ≡ Some y = subst (λ (q : ℕ). slice_get (slice_index_or lists q []) m ≡ Some y) same.1 there in
          elim (cases_lt p (length lists)) [
            | inl within ↦
                ap (λ (q : ℕ). slice_get (slice_index_or (slice_set lists p (list ++ x ∷ [])) q []) m) same.1
                ∙ ap (λ (xs : List (List ℕ)). slice_get xs m) (get_or-set_same lists p (list ++ x ∷ []) [] within)
                ∙ get_before list x m (slice_get_within list m y here)
                ∙ here
            | inr past ↦ ap (λ (all : List (List (List ℕ))). slice_get (slice_index_or all k []) m) (set_past lists p (list ++ x ∷ []) past) ∙ there
          ]
      | inr other ↦ ap (λ (xs : List (List ℕ)). slice_get xs m) (get_or-set_other lists p k (list ++ x ∷ []) [] other.1) ∙ there
    ]

-- the frame at a place
abbrev as_placed : Place → List ℕ → MadeFrame
as_placed p bytes = record { event = p.event; from = p.from; to = p.to; bytes = bytes }

still_placed : (t : MadeTable) (event from : ℕ) (frame : OutFrame) (p : Place) (x : MadeFrame) → frame_placed t p ≡ Some x → frame_placed (with_frame t event from frame) p ≡ Some x
still_placed t event from frame p x is =
    elim (slice_get (made_in t p.from p.to) p.at) as (λ o. slice_get (made_in t p.from p.to) p.at ≡ o → option_map (as_placed p) o ≡ Some x → frame_placed (with_frame t event from frame) p ≡ Some x) [
      | None ↦ λ there none. absurd (cc)
      | Some y ↦ λ there some.
          ap (option_map (as_placed p)) (still_there t.lists (from * t.n + frame.to) (p.from * t.n + p.to) p.at frame.bytes y there) ∙ some
    ] refl is

still_ordered : (t : MadeTable) (event from : ℕ) (frame : OutFrame) (places : List Place) (frames : List MadeFrame) → map (frame_placed t) places ≡ map Some frames →
    map (frame_placed (with_frame t event from frame)) places ≡ map Some frames
still_ordered t event from frame [] frames are = are
still_ordered t event from frame (p ∷ places) [] are = absurd (cc)
still_ordered t event from frame (p ∷ places) (x ∷ frames) are =
    ap₂ (λ o os. o ∷ os) (still_placed t event from frame p x (cc)) (still_ordered t event from frame places frames (cc))

-- ---- the order of a table that has more frames

-- a frame that a replica made in an event
abbrev made_as : ℕ → ℕ → OutFrame → MadeFrame
made_as event from o = record { event = event; from = from; to = o.to; bytes = o.bytes }

newest_placed : (t : MadeTable) (event from : ℕ) (frame : OutFrame) → from * t.n + frame.to < length t.lists →
    frame_placed (with_frame t event from frame) (next_place t event from frame.to) ≡ Some (made_as event from frame)
newest_placed t event from frame within =
    let list = made_in t from frame.to in
    ap (λ (xs : List (List ℕ)). option_map (as_placed (next_place t event from frame.to)) (slice_get xs (length list)))
    (get_or-set_same t.lists (from * t.n + frame.to) (list ++ frame.bytes ∷ []) [] within)
    ∙ ap (option_map (as_placed (next_place t event from frame.to))) (get_last list frame.bytes)

one_ordered : (t : MadeTable) (event from : ℕ) (frame : OutFrame) (frames : List MadeFrame) → from * t.n + frame.to < length t.lists → IsOrderOf t frames →
    IsOrderOf (with_frame t event from frame) (frames ++ made_as event from frame ∷ [])
one_ordered t event from frame frames within are =
    let look : Place → Option MadeFrame = frame_placed (with_frame t event from frame) in
    map-append look t.order (next_place t event from frame.to ∷ [])
    ∙ ap₂ (λ os o. os ++ o ∷ []) (still_ordered t event from frame t.order frames are) (newest_placed t event from frame within)
    ∙ sym (map-append Some frames (made_as event from frame ∷ []))

all_ordered : (t : MadeTable) (n event from : ℕ) (out : List OutFrame) (frames : List MadeFrame) → IsSquare t n → from < n → AreBelow n out → IsOrderOf t frames →
    IsOrderOf (with_frames t event from out) (frames ++ map (made_as event from) out)
all_ordered t n event from [] frames is from_below below are = subst (IsOrderOf t) (sym (append-nil frames)) are
all_ordered t n event from (frame ∷ out) frames is from_below below are =
    let to_below : frame.to < n = All-head (λ f. f.to < n) frame out below in
    let within : from * t.n + frame.to < length t.lists =
    subst (λ (long : ℕ). from * t.n + frame.to < long) (sym is.lists) (subst (λ (k : ℕ). from * k + frame.to < n * n) (sym is.many) (place_within from frame.to n from_below to_below)) in
    subst (IsOrderOf (with_frames (with_frame t event from frame) event from out)) (append_assoc frames (made_as event from frame ∷ []) (map (made_as event from) out))
    (all_ordered (with_frame t event from frame) n event from out (frames ++ made_as event from frame ∷ []) (square_more t n event from frame is) from_below
    (All-tail (λ f. f.to < n) frame out below) (one_ordered t event from frame frames within are))

-- ---- after a call, if there is one

pub order_next : MadeByEntry → (w : Setting) (seats : Seats) (states : ℕ → CoreState) (c : Option CallAt) (t : MadeTable) (event at : ℕ) (out : List OutFrame) (frames : List MadeFrame) →
    SeatsStand w seats → FramesStand w states t → ((i : ℕ) → w.is_correct i ≡ true → i < w.numbers.n) → IsAt w c at → out ≡ frames_out w states c → IsOrderOf t frames →
    IsOrderOf (with_frames t event at out) (frames ++ frames_of_call event w states c)
order_next made_by w seats states None t event at out frames seats_stand stand within is none are =
    subst (λ (fs : List OutFrame). IsOrderOf (with_frames t event at fs) (frames ++ [])) (sym none) (subst (IsOrderOf t) (sym (append-nil frames)) are)
order_next made_by w seats states (Some c) t event at out frames seats_stand stand within is made are =
    let below : c.at < w.numbers.n = within c.at (ap w.is_correct is.0 ∙ is.1) in
    let after = frames ++ frames_of_call event w states (Some c) in
    subst (λ (fs : List OutFrame). IsOrderOf (with_frames t event at fs) after) (sym made)
    (subst (λ (i : ℕ). IsOrderOf (with_frames t event i (handled_at w states c).out) after) is.0
    (all_ordered t w.numbers.n event c.at (handled_at w states c).out frames stand.square below (out_below made_by w seats states c seats_stand below) are))

-- ---- by number

joined : (t : MadeTable) (p : Option Place) (x : Option MadeFrame) → option_map (frame_placed t) p ≡ option_map Some x → placed_if t p ≡ x
joined t None None e = refl
joined t None (Some x) e = absurd (cc)
joined t (Some p) None e = absurd (cc)
joined t (Some p) (Some x) e = cc

-- the frame of a number in the table is that of the list
pub made_is : (t : MadeTable) (frames : List MadeFrame) (k : ℕ) → IsOrderOf t frames → made_at t k ≡ slice_get frames k
made_is t frames k are =
    joined t (slice_get t.order k) (slice_get frames k)
    (sym (slice_get-map (frame_placed t) t.order k) ∙ ap (λ (os : List (Option MadeFrame)). slice_get os k) are ∙ slice_get-map Some frames k)
