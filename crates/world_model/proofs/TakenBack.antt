-- Frames that were added to the table are taken off again.
use Rattle.std.proofs.Common.{◌≡◌, ℕ, ◌+◌, ◌*◌, ◌-◌, ◌<◌, List, [], ◌∷◌, ◌++◌, length, map, take, Result, Ok, Err, true, false, refl, sym, ◌∙◌, ap, ap₂, inl, inr, slice_index_or, slice_set, arith}
use Rattle.std.specs.Result.{is_err, OnOk, OnErr}
use Rattle.std.proofs.lemmas.Bool.{cases_lt}
use Rattle.std.proofs.lemmas.List.{length-append, length-set, get_or-map, get_or-set_same, map-set, set-get_or, set-set, set_past, take_at}
use Rattle.replica.specs.Out.{OutFrame}
use Rattle.world_model.specs.declared.order.Place.{Place}
use Rattle.world_model.specs.FramesMade.{MadeTable, next_place, with_frame, with_frames}
use Rattle.world_model.proofs.Tables.{with_frames-append}

-- ---- a list without its newest frame

-- the lists, where the one at a place is without its newest frame
abbrev shortened : List (List (List ℕ)) → ℕ → List (List (List ℕ))
shortened lists p = slice_set lists p (take (length (slice_index_or lists p []) - 1) (slice_index_or lists p []))

shorter : (xs : List (List ℕ)) (x : List ℕ) → take (length (xs ++ x ∷ []) - 1) (xs ++ x ∷ []) ≡ xs
shorter xs x = take_at xs (x ∷ []) (length (xs ++ x ∷ []) - 1) (omega (arith, length-append xs (x ∷ [])))

restored : (lists : List (List (List ℕ))) (p : ℕ) (x : List ℕ) → shortened (slice_set lists p (slice_index_or lists p [] ++ x ∷ [])) p ≡ lists
restored lists p x =
    let more = slice_index_or lists p [] ++ x ∷ [] in
    elim (cases_lt p (length lists)) [
      | inl within ↦
          ap (λ y. slice_set (slice_set lists p more) p (take (length y - 1) y)) (get_or-set_same lists p more [] within)
          ∙ ap (slice_set (slice_set lists p more) p) (shorter (slice_index_or lists p []) x)
          ∙ set-set lists p more (slice_index_or lists p [])
          ∙ set-get_or lists p []
      | inr past ↦
          let long = length-set lists p more in
          set_past (slice_set lists p more) p (take (length (slice_index_or (slice_set lists p more) p []) - 1) (slice_index_or (slice_set lists p more) p [])) (omega arith)
          ∙ set_past lists p more past
    ]

-- the newest frame was taken off the list at its place
popped : {V : Type 0} (items : V → List (List ℕ)) (at : ℕ) (lists : List V) (old new : V) → at < length lists → old ≡ slice_index_or lists at old →
    items new ≡ take (length (items old) - 1) (items old) → map items (slice_set lists at new) ≡ shortened (map items lists) at
popped items at lists old new within was now =
    let read : slice_index_or (map items lists) at [] ≡ items old = get_or-map items lists at old [] within ∙ ap items (sym was) in
    map-set items lists at new ∙ ap (slice_set (map items lists) at) (now ∙ ap (λ y. take (length y - 1) y) (sym read))

-- ---- the newest frame of the table

-- the table of these lists and this order
abbrev table_of : {V : Type 0} → (V → List (List ℕ)) → ℕ → List Place → List V → MadeTable
table_of items n order lists = record { n = n; lists = map items lists; order = order }

-- two lists with one element more are the same
same_parts : (xs ys : List Place) (x y : Place) → xs ++ x ∷ [] ≡ ys ++ y ∷ [] → (xs ≡ ys) × (x ≡ y)
same_parts [] [] x y e = (refl, cc)
same_parts [] (b ∷ []) x y e = absurd (cc)
same_parts [] (b ∷ c ∷ ys) x y e = absurd (cc)
same_parts (a ∷ []) [] x y e = absurd (cc)
same_parts (a ∷ b ∷ xs) [] x y e = absurd (cc)
same_parts (a ∷ xs) (b ∷ ys) x y e =
    let parts = same_parts xs ys x y (cc) in
    let head : a ≡ b = cc in
    (ap₂ (λ z zs. z ∷ zs) head parts.0, parts.1)

-- a table whose lists are without the newest frame at the last place of its order is the one before
newest_off : {V : Type 0} (items : V → List (List ℕ)) (n : ℕ) (order rest : List Place) (place : Place) (lists left : List V) (t : MadeTable) (event from : ℕ) (frame : OutFrame) →
    order ≡ rest ++ place ∷ [] → map items left ≡ shortened (map items lists) (place.from * n + place.to) → table_of items n order lists ≡ with_frame t event from frame →
    table_of items n rest left ≡ t
newest_off items n order rest place lists left t event from frame parted short is =
    let parts = same_parts rest t.order place (next_place t event from frame.to) (sym parted ∙ ap (λ x. x.order) is) in
    let many : n ≡ t.n = ap (λ x. x.n) is in
    let at : place.from * n + place.to ≡ from * t.n + frame.to = ap₂ (λ (p : Place) (k : ℕ). p.from * k + p.to) parts.1 many in
    let whole : map items left ≡ t.lists =
    short ∙ ap₂ shortened (ap (λ x. x.lists) is) at ∙ restored t.lists (from * t.n + frame.to) frame.bytes in
    ap (λ k. record { n = k; lists = map items left; order = rest }) many
    ∙ ap (λ ls. record { n = t.n; lists = ls; order = rest }) whole
    ∙ ap (λ o. record { n = t.n; lists = t.lists; order = o }) parts.0

-- as the code has it, where there is a list at the place
pub taken_off : {V : Type 0} (items : V → List (List ℕ)) (n at : ℕ) (order rest : List Place) (place : Place) (lists : List V) (old new : V) (self t : MadeTable) (event from : ℕ) (frame : OutFrame) →
    table_of items n order lists ≡ self → order ≡ rest ++ place ∷ [] → at ≡ place.from * n + place.to → at < length lists → old ≡ slice_index_or lists at old →
    items new ≡ take (length (items old) - 1) (items old) → self ≡ with_frame t event from frame → table_of items n rest (slice_set lists at new) ≡ t
taken_off items n at order rest place lists old new self t event from frame view parted place_is within was now is =
    newest_off items n order rest place lists (slice_set lists at new) t event from frame parted
    (popped items at lists old new within was now ∙ ap (shortened (map items lists)) place_is) (view ∙ is)

-- ---- some frames

-- the last of some frames
record IsOneMore (frames : List OutFrame) : Type 0 where
  rest : List OutFrame
  last : OutFrame
  whole : frames ≡ rest ++ last ∷ []

last_of : (frame : OutFrame) (frames : List OutFrame) → IsOneMore (frame ∷ frames)
last_of frame [] = record { rest = []; last = frame; whole = refl }
last_of frame (next ∷ frames) =
    let more = last_of next frames in
    record { rest = frame ∷ more.rest; last = more.last; whole = ap (λ fs. frame ∷ fs) more.whole }

-- the table has so many frames more than t, of one sender and event
abbrev pub HasMore : MadeTable → ℕ → ℕ → MadeTable → ℕ → Type 0
HasMore t event from table k = (frames : List OutFrame) × (length frames ≡ k) × (table ≡ with_frames t event from frames)

-- each of them has its place in the order
order_long : (t : MadeTable) (event from : ℕ) (frames : List OutFrame) → length (with_frames t event from frames).order ≡ length t.order + length frames
order_long t event from [] = omega arith
order_long t event from (frame ∷ frames) =
    let more = order_long (with_frame t event from frame) event from frames in
    let one = length-append t.order (next_place t event from frame.to ∷ []) in
    omega arith

-- those behind the first so many are there
pub all_there : (t : MadeTable) (event from : ℕ) (table : MadeTable) (frames : List OutFrame) (count end : ℕ) → length t.order ≡ count → table ≡ with_frames t event from frames →
    end ≡ length table.order → HasMore t event from table (end - count)
all_there t event from table frames count end first is long =
    let all : length table.order ≡ length t.order + length frames = ap (λ x. length x.order) is ∙ order_long t event from frames in
    (frames, omega arith, is)

-- without the newest
pub one_fewer : (t : MadeTable) (event from : ℕ) (old new : MadeTable) (i end : ℕ) → i < end → HasMore t event from old (end - i) →
    ((t : MadeTable) (event from : ℕ) (frame : OutFrame) → old ≡ with_frame t event from frame → new ≡ t) → HasMore t event from new (end - (i + 1))
one_fewer t event from old new i end some ([], long, is) off = absurd (omega (arith, long))
one_fewer t event from old new i end some (frame ∷ frames, long, is) off =
    let one = last_of frame frames in
    let less = length-append one.rest (one.last ∷ []) in
    let all : length (frame ∷ frames) ≡ length (one.rest ++ one.last ∷ []) = ap length one.whole in (
      one.rest,
      omega (arith, long),
      off (with_frames t event from one.rest) event from one.last
          (is ∙ ap (with_frames t event from) one.whole ∙ with_frames-append t event from one.rest (one.last ∷ [])),
    )

-- ---- one frame more, as the code has it

pub next_added : {A E : Type 0} (t old new : MadeTable) (event from : ℕ) (frames : List OutFrame) (frame : OutFrame) (r : Result A E) → is_err r ≡ false →
    old ≡ with_frames t event from frames → OnOk r (new ≡ with_frame old event from frame) → new ≡ with_frames t event from (frames ++ frame ∷ [])
next_added t old new event from frames frame (Ok x) e is more = more ∙ ap (λ x. with_frame x event from frame) is ∙ sym (with_frames-append t event from frames (frame ∷ []))
next_added t old new event from frames frame (Err x) e is more = absurd (cc)

pub none_added : {A E : Type 0} (old new : MadeTable) (r : Result A E) → is_err r ≡ true → OnErr r (new ≡ old) → new ≡ old
none_added old new (Ok x) e same = absurd (cc)
none_added old new (Err x) e same = same
