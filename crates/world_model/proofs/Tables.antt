-- The table of the frames that were made.
use Rattle.std.proofs.Common.{◌≡◌, ℕ, ◌+◌, ◌*◌, ◌<◌, ◌==◌, Bool, true, false, not, ◌&&◌, cond, if◌then◌else◌, length, List, [], ◌∷◌, ◌++◌, map, filter, refl, sym, ◌∙◌, ap, ap₂, subst, slice_index_or, slice_set, Result, Ok, Err, arith, append_assoc, append-nil}
use Rattle.std.specs.Result.{OnErr}
use Rattle.std.specs.List.{All, range_with_len}
use Rattle.std.proofs.lemmas.Bool.{eqb-true, eq-eqb, false≢true}
use Rattle.std.proofs.lemmas.Grind.{get_or-set_at}
use Rattle.std.proofs.lemmas.List.{map-set, set-get_or, get_or-map, length-set, get_or-set_other}
use Rattle.std.proofs.lemmas.List.Elements.{All-nil, All-head, All-tail, All-append, All-map, All-filter, All-from_get_or}
use Rattle.std.proofs.lemmas.List.FromFn.{length-range_with_len, get_or-range_with_len}
use Rattle.std.proofs.lemmas.Nat.{same_from_place, rows}
use Rattle.ritas_base.specs.declared.item.Msg.{Msg}
use Rattle.ritas_base.specs.Messages.{reaches}
use Rattle.keyed_channel.specs.KeyRow.{KeyRow}
use Rattle.ritas_core.specs.Order.{sent_to}
use Rattle.replica.specs.Frames.{frames_of, frame_for, receivers}
use Rattle.replica.specs.Out.{OutFrame}
use Rattle.world_model.specs.FramesMade.{MadeTable, IsSquare, made_in, frames_to, pushed_at, with_frame, with_frames}

-- ---- lists of lists

-- a frame was pushed on the list at its place
pub pushed : {V : Type 0} (items : V → List (List ℕ)) (at : ℕ) (lists : List V) (old new : V) (frame : List ℕ) → at < length lists → old ≡ slice_index_or lists at old →
    items new ≡ items old ++ frame ∷ [] → map items (slice_set lists at new) ≡ pushed_at (map items lists) at frame
pushed items at lists old new frame within was now =
    let read : slice_index_or (map items lists) at [] ≡ items old = get_or-map items lists at old [] within ∙ ap items (sym was) in
    map-set items lists at new ∙ ap (slice_set (map items lists) at) (now ∙ ap (λ y. y ++ frame ∷ []) (sym read))

pub on_err : {A E : Type 0} {P : Type 0} (r : Result A E) → P → OnErr r P
on_err (Ok x) p = tt
on_err (Err e) p = p

-- its list stayed
pub kept : {V : Type 0} (items : V → List (List ℕ)) (at : ℕ) (lists : List V) (old new : V) → at < length lists → old ≡ slice_index_or lists at old →
    items new ≡ items old → map items (slice_set lists at new) ≡ map items lists
kept items at lists old new within was same =
    let read : slice_index_or (map items lists) at [] ≡ items old = get_or-map items lists at old [] within ∙ ap items (sym was) in
    map-set items lists at new ∙ ap (slice_set (map items lists) at) (same ∙ sym read) ∙ set-get_or (map items lists) at []

-- ---- more frames

pub with_frames-append : (t : MadeTable) (event from : ℕ) (xs ys : List OutFrame) → with_frames t event from (xs ++ ys) ≡ with_frames (with_frames t event from xs) event from ys
with_frames-append t event from [] ys = refl
with_frames-append t event from (x ∷ xs) ys = with_frames-append (with_frame t event from x) event from xs ys

-- ---- what the lists are afterwards

-- each of these frames is for a replica below n
abbrev pub AreBelow : ℕ → List OutFrame → Type 0
AreBelow n frames = All (λ f. f.to < n) frames

-- those of these frames that i makes for j, where from makes them
abbrev pub made_by : ℕ → ℕ → ℕ → List OutFrame → List (List ℕ)
made_by from i j frames = if i == from then frames_to j frames else []

pub square_more : (t : MadeTable) (n event from : ℕ) (frame : OutFrame) → IsSquare t n → IsSquare (with_frame t event from frame) n
square_more t n event from frame is = record {
  many = is.many;
  lists = length-set t.lists (from * t.n + frame.to) (made_in t from frame.to ++ frame.bytes ∷ []) ∙ is.lists;
}

pub square_all : (t : MadeTable) (n event from : ℕ) (frames : List OutFrame) → IsSquare t n → IsSquare (with_frames t event from frames) n
square_all t n event from [] is = is
square_all t n event from (frame ∷ frames) is = square_all (with_frame t event from frame) n event from frames (square_more t n event from frame is)

pub place_within : (from to n : ℕ) → from < n → to < n → from * n + to < n * n
place_within from to n a b = grind (arith, rows)

same_place : (lists : List (List (List ℕ))) (p q : ℕ) (x : List (List ℕ)) → p ≡ q → q < length lists → slice_index_or (slice_set lists p x) q [] ≡ x
same_place lists p q x e within = get_or-set_at lists p q x [] (sym e) (subst (λ k. k < length lists) (sym e) within)

one_at : (n from i j : ℕ) (lists : List (List (List ℕ))) (frame : OutFrame) (b c : Bool) → length lists ≡ n * n →
    from < n → frame.to < n → i < n → j < n → (i == from) ≡ b → (frame.to == j) ≡ c →
    slice_index_or (pushed_at lists (from * n + frame.to) frame.bytes) (i * n + j) []
    ≡ slice_index_or lists (i * n + j) [] ++ (if b then map (λ f. f.bytes) (if c then frame ∷ [] else []) else [])
one_at n from i j lists frame true true long from_below to_below i_below j_below e g =
    let place : from * n + frame.to ≡ i * n + j = ap₂ (λ x y. x * n + y) (sym (eqb-true i from e)) (eqb-true frame.to j g) in
    let within : i * n + j < length lists = subst (λ k. i * n + j < k) (sym long) (place_within i j n i_below j_below) in
    same_place lists (from * n + frame.to) (i * n + j) (slice_index_or lists (from * n + frame.to) [] ++ frame.bytes ∷ []) place within
    ∙ ap (λ k. slice_index_or lists k [] ++ frame.bytes ∷ []) place
one_at n from i j lists frame true false long from_below to_below i_below j_below e g =
    get_or-set_other lists (from * n + frame.to) (i * n + j) (slice_index_or lists (from * n + frame.to) [] ++ frame.bytes ∷ []) []
    (λ same. let parts = same_from_place i j from frame.to n j_below to_below same in false≢true (sym g ∙ eq-eqb frame.to j (sym parts.1)))
    ∙ sym (append-nil (slice_index_or lists (i * n + j) []))
one_at n from i j lists frame false c long from_below to_below i_below j_below e g =
    get_or-set_other lists (from * n + frame.to) (i * n + j) (slice_index_or lists (from * n + frame.to) [] ++ frame.bytes ∷ []) []
    (λ same. let parts = same_from_place i j from frame.to n j_below to_below same in false≢true (sym e ∙ eq-eqb i from parts.0))
    ∙ sym (append-nil (slice_index_or lists (i * n + j) []))

one_in : (t : MadeTable) (n event from i j : ℕ) (frame : OutFrame) → IsSquare t n → from < n → frame.to < n → i < n → j < n →
    made_in (with_frame t event from frame) i j ≡ made_in t i j ++ made_by from i j (frame ∷ [])
one_in t n event from i j frame is from_below to_below i_below j_below =
    let P : ℕ → Type 0 = λ k. length t.lists ≡ k * k → from < k → frame.to < k → i < k → j < k → made_in (with_frame t event from frame) i j ≡ made_in t i j ++ made_by from i j (frame ∷ []) in
    subst P is.many (λ long a b c d. one_at t.n from i j t.lists frame (i == from) (frame.to == j) long a b c d refl refl) is.lists from_below to_below i_below j_below

to_more : (j : ℕ) (frame : OutFrame) (frames : List OutFrame) → frames_to j (frame ∷ frames) ≡ frames_to j (frame ∷ []) ++ frames_to j frames
to_more j frame frames = elim (frame.to == j) as (λ b. map (λ f. f.bytes) (cond b (frame ∷ filter (λ f. f.to == j) frames) (filter (λ f. f.to == j) frames))
    ≡ map (λ f. f.bytes) (cond b (frame ∷ []) []) ++ frames_to j frames) [ true ↦ refl | false ↦ refl ]

by_more : (b : Bool) (old first rest : List (List ℕ)) → (old ++ (if b then first else [])) ++ (if b then rest else []) ≡ old ++ (if b then first ++ rest else [])
by_more true old first rest = append_assoc old first rest
by_more false old first rest = append-nil (old ++ [])

either_way : (b : Bool) (frames : List (List ℕ)) → frames ≡ (if b then frames else frames)
either_way true frames = refl
either_way false frames = refl

-- the list of each sender and receiver has those of these frames that the sender made for the receiver
pub made_in_more : (t : MadeTable) (n event from i j : ℕ) (frames : List OutFrame) → IsSquare t n → from < n → AreBelow n frames → i < n → j < n →
    made_in (with_frames t event from frames) i j ≡ made_in t i j ++ made_by from i j frames
made_in_more t n event from i j [] is from_below below i_below j_below =
    sym (append-nil (made_in t i j)) ∙ ap (λ x. made_in t i j ++ x) (either_way (i == from) [])
made_in_more t n event from i j (frame ∷ frames) is from_below below i_below j_below =
    made_in_more (with_frame t event from frame) n event from i j frames (square_more t n event from frame is) from_below (All-tail (λ f. f.to < n) frame frames below) i_below j_below
    ∙ ap (λ x. x ++ made_by from i j frames) (one_in t n event from i j frame is from_below (All-head (λ f. f.to < n) frame frames below) i_below j_below)
    ∙ by_more (i == from) (made_in t i j) (frames_to j (frame ∷ [])) (frames_to j frames)
    ∙ ap (λ x. made_in t i j ++ (if i == from then x else [])) (sym (to_more j frame frames))

-- ---- whom a replica's frames are for

range_below : (n : ℕ) → All (λ j. j < n) (range_with_len 0 n)
range_below n = All-from_get_or (λ j. j < n) (range_with_len 0 n) 0
    (λ i within. let below : i < n = rw length-range_with_len at within in subst (λ x. x < n) (sym (get_or-range_with_len 0 n i 0 below)) (omega arith))

pub frames_below : (k : KeyRow) (counts : ℕ → ℕ) (ms : List Msg) → AreBelow k.n (frames_of k counts ms)
frames_below k counts [] = All-nil (λ f. f.to < k.n)
frames_below k counts (m ∷ ms) =
    All-append (λ f. f.to < k.n) (map (λ j. frame_for k j (counts j) m) (receivers k m)) (frames_of k (λ j. counts j + length (sent_to j (m ∷ []))) ms)
    (All-map (λ f. f.to < k.n) (λ j. frame_for k j (counts j) m) (receivers k m)
    (All-filter (λ j. reaches m.to j && not (j == k.me)) (λ j. j < k.n) (range_with_len 0 k.n) (range_below k.n)))
    (frames_below k (λ j. counts j + length (sent_to j (m ∷ []))) ms)
