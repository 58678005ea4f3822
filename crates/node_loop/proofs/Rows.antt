-- The rows of a log that came in so far.
use Rattle.std.proofs.Common.{◌≡◌, ◌≢◌, ℕ, zero, suc, ◌+◌, ◌-◌, ◌<◌, ◌≤◌, false, nat_lt, List, [], ◌∷◌, ◌++◌, length, drop, reverse, Some, None, refl, sym, ◌∙◌, ap, subst, arith, append-nil, append_assoc, ◌⊎◌, inl, inr, if◌then◌else◌}
use Rattle.std.specs.List.{slice_get}
use Rattle.std.proofs.lemmas.Bool.{lt-ltb, le-ltb, cond-true, cond-false, cases_lt}
use Rattle.std.proofs.lemmas.List.{length-drop, length-reverse}
use Rattle.std.proofs.lemmas.Option.{slice_get_within, slice_get_cases}
use mathlib.Core.List.{reverse-cons}
use Rattle.outside.specs.declared.link.Sent.{Sent}
use Rattle.client_port.specs.Messages.{position_reply}
use Rattle.command_log.specs.Rows.{Row, row_at}
use Rattle.node_loop.specs.declared.waiting.Waiters.{Waiters}
use Rattle.node_loop.specs.Waiting.{Waiting, without_asked}
use Rattle.node_loop.specs.Calls.{asked_by, waiting_left_by, replies_by, reply_each}
use Rattle.node_loop.specs.WaitersStanding.{IsWaiting}

-- the first so many rows
abbrev pub first : List Row → ℕ → List Row
first rows position = drop (length rows - position) rows

-- those of them behind the first `count` came in
pub record Entered (at count : ℕ) (rows : List Row) (position : ℕ) (waiting : Waiters) (before now : List Sent) (ws : Waiting) : Type 0 where
  pub waits : IsWaiting waiting (waiting_left_by at count (first rows position) ws)
  pub replies : now ≡ before ++ replies_by at count (first rows position) ws

-- ---- none came in where there are no more rows than `count`

left_none : (at count : ℕ) (rows : List Row) (ws : Waiting) → length rows ≤ count → waiting_left_by at count rows ws ≡ ws
left_none at count [] ws few = refl
left_none at count (row ∷ rows) ws few = cond-true (nat_lt (length rows) count) ws (without_asked (asked_by at row) (waiting_left_by at count rows ws)) (lt-ltb (length rows) count (omega arith))

replies_none : (at count : ℕ) (rows : List Row) (ws : Waiting) → length rows ≤ count → replies_by at count rows ws ≡ []
replies_none at count [] ws few = refl
replies_none at count (row ∷ rows) ws few = ap (λ b. if b then [] else (replies_by at count rows ws ++ reply_each at (position_reply row.client row.request (length rows)) (waiting_left_by at count rows ws (asked_by at row)))) (lt-ltb (length rows) count (omega arith))

length_first : (rows : List Row) (position : ℕ) → position ≤ length rows → length (first rows position) ≡ position
length_first rows position within = omega (arith, length-drop (length rows - position) rows)

pub starts : (at count : ℕ) (rows : List Row) (waiting : Waiters) (before : List Sent) (ws : Waiting) → IsWaiting waiting ws → Entered at count rows count waiting before before ws
starts at count rows waiting before ws is =
    let few : length (first rows count) ≤ count = omega (arith, length-drop (length rows - count) rows) in
    record {
      waits = let P : Waiting → Type 0 = λ x. IsWaiting waiting x in subst P (sym (left_none at count (first rows count) ws few)) is;
      replies = sym (append-nil before) ∙ ap (λ xs. before ++ xs) (sym (replies_none at count (first rows count) ws few));
    }

-- ---- one more

got_last : {X : Type 0} (xs : List X) (y x : X) (i : ℕ) → slice_get (xs ++ y ∷ []) i ≡ Some x → (slice_get xs i ≡ Some x) ⊎ ((i ≡ length xs) × (y ≡ x))
got_last [] y x zero e = inr (refl, cc)
got_last [] y x (suc i) e = absurd (cc)
got_last (z ∷ xs) y x zero e = inl e
got_last (z ∷ xs) y x (suc i) e = elim (got_last xs y x i e) [
  | inl before ↦ inl before
  | inr last ↦ inr (ap suc last.0, last.1)
]

-- a row stands behind the newest, or is the newest
row_last : (r : Row) (rs : List Row) (p : ℕ) (y : Row) → row_at (r ∷ rs) p ≡ Some y → (row_at rs p ≡ Some y) ⊎ ((p ≡ length rs) × (r ≡ y))
row_last r rs p y h =
    elim (got_last (reverse rs) r y p (ap (λ (l : List Row). slice_get l p) (sym (reverse-cons r rs)) ∙ h)) [
      | inl before ↦ inl before
      | inr last ↦ inr (last.0 ∙ length-reverse rs, last.1)
    ]

first_more : (rows : List Row) (p : ℕ) (row : Row) → row_at rows p ≡ Some row → first rows (p + 1) ≡ row ∷ first rows p
first_more [] p row e = absurd (cc)
first_more (r ∷ rs) p row e = elim (row_last r rs p row e) [
  | inl before ↦
      let here = slice_get_within (reverse rs) p row before in
      let long = length-reverse rs in
      let n : suc (length rs) - (p + 1) ≡ suc (length rs - (p + 1)) = omega arith in
      let k : suc (length rs) - p ≡ suc (length rs - p) = omega arith in
      ap (λ i. drop i (r ∷ rs)) n ∙ first_more rs p row before ∙ ap (λ xs. row ∷ xs) (sym (ap (λ i. drop i (r ∷ rs)) k))
  | inr last ↦
      let same = last.0 in
      let n : suc (length rs) - (p + 1) ≡ 0 = omega arith in
      let k : suc (length rs) - p ≡ 1 = omega arith in
      ap (λ i. drop i (r ∷ rs)) n ∙ ap (λ x. x ∷ rs) last.1 ∙ ap (λ xs. row ∷ xs) (sym (ap (λ i. drop i (r ∷ rs)) k))
]

pub no_row : (rows : List Row) (p : ℕ) → p < length rows → None ≡ row_at rows p → ⊥
no_row rows p within none = elim (slice_get_cases (reverse rows) p).1 [
  | inl found ↦ let there = found.2 in cc
  | inr past ↦ let above = past.0 in let long = length-reverse rows in omega arith
]

pub enters_more : (at count : ℕ) (rows : List Row) (p : ℕ) (row : Row) (waiting later : Waiters) (before now more : List Sent) (ws : Waiting)
    → Entered at count rows p waiting before now ws → count ≤ p → row_at rows p ≡ Some row
    → IsWaiting later (without_asked (asked_by at row) (waiting_left_by at count (first rows p) ws))
    → more ≡ now ++ reply_each at (position_reply row.client row.request p) (waiting_left_by at count (first rows p) ws (asked_by at row))
    → Entered at count rows (p + 1) later before more ws
enters_more at count rows p row waiting later before now more ws so_far above there waits did =
    let rest = first rows p in
    let within : p < length rows = let below = slice_get_within (reverse rows) p row there in let long = length-reverse rows in omega arith in
    let long : length rest ≡ p = length_first rows p (omega arith) in
    let past : nat_lt (length rest) count ≡ false = le-ltb (length rest) count (omega arith) in
    let left : waiting_left_by at count (first rows (p + 1)) ws ≡ without_asked (asked_by at row) (waiting_left_by at count rest ws) =
    ap (λ xs. waiting_left_by at count xs ws) (first_more rows p row there) ∙ cond-false (nat_lt (length rest) count) ws (without_asked (asked_by at row) (waiting_left_by at count rest ws)) past in
    let said = reply_each at (position_reply row.client row.request p) (waiting_left_by at count rest ws (asked_by at row)) in
    let replied : replies_by at count (first rows (p + 1)) ws ≡ replies_by at count rest ws ++ said =
    ap (λ xs. replies_by at count xs ws) (first_more rows p row there)
    ∙ cond-false (nat_lt (length rest) count) [] (replies_by at count rest ws ++ reply_each at (position_reply row.client row.request (length rest)) (waiting_left_by at count rest ws (asked_by at row))) past
    ∙ ap (λ k. replies_by at count rest ws ++ reply_each at (position_reply row.client row.request k) (waiting_left_by at count rest ws (asked_by at row))) long in
    record {
      waits = let P : Waiting → Type 0 = λ x. IsWaiting later x in subst P (sym left) waits;
      replies = did ∙ ap (λ xs. xs ++ said) so_far.replies ∙ append_assoc before (replies_by at count rest ws) said ∙ ap (λ xs. before ++ xs) (sym replied);
    }

-- all of them
pub all_first : (rows : List Row) (p : ℕ) → length rows ≤ p → first rows p ≡ rows
all_first rows p past = ap (λ i. drop i rows) (let none : length rows - p ≡ 0 = omega arith in none)

-- ---- who is replied to

front_none : {X : Type 0} (xs ys : List X) → xs ++ ys ≡ [] → xs ≡ []
front_none [] ys none = refl
front_none (x ∷ xs) ys none = absurd (cc)

back_none : {X : Type 0} (xs ys : List X) → xs ++ ys ≡ [] → ys ≡ []
back_none [] ys none = none
back_none (x ∷ xs) ys none = absurd (cc)

-- where nobody is replied to, nobody is by the rows before the newest
before_none : (at count : ℕ) (row : Row) (rows : List Row) (ws : Waiting) → replies_by at count (row ∷ rows) ws ≡ [] → replies_by at count rows ws ≡ []
before_none at count row rows ws none = elim (cases_lt (length rows) count) [
  | inl few ↦ replies_none at count rows ws (omega (arith, few))
  | inr many ↦
      let said = reply_each at (position_reply row.client row.request (length rows)) (waiting_left_by at count rows ws (asked_by at row)) in
      front_none (replies_by at count rows ws) said (sym (cond-false (nat_lt (length rows) count) [] (replies_by at count rows ws ++ said) (le-ltb (length rows) count (omega (arith, many)))) ∙ none)
]

drop_none : (at count k : ℕ) (rows : List Row) (ws : Waiting) → replies_by at count rows ws ≡ [] → replies_by at count (drop k rows) ws ≡ []
drop_none at count zero rows ws none = none
drop_none at count (suc k) [] ws none = none
drop_none at count (suc k) (row ∷ rows) ws none = drop_none at count k rows ws (before_none at count row rows ws none)

-- somebody is replied to where somebody is by one of the rows
pub some_by_row : (at count : ℕ) (rows : List Row) (p : ℕ) (row : Row) (ws : Waiting) → count ≤ p → row_at rows p ≡ Some row
    → reply_each at (position_reply row.client row.request p) (waiting_left_by at count (first rows p) ws (asked_by at row)) ≢ [] → replies_by at count rows ws ≢ []
some_by_row at count rows p row ws above there some none =
    let rest = first rows p in
    let within : p < length rows = let below = slice_get_within (reverse rows) p row there in let long = length-reverse rows in omega arith in
    let long : length rest ≡ p = length_first rows p (omega arith) in
    let past : nat_lt (length rest) count ≡ false = le-ltb (length rest) count (omega arith) in
    let said = reply_each at (position_reply row.client row.request (length rest)) (waiting_left_by at count rest ws (asked_by at row)) in
    let here : replies_by at count (row ∷ rest) ws ≡ [] =
    ap (λ xs. replies_by at count xs ws) (sym (first_more rows p row there)) ∙ drop_none at count (length rows - (p + 1)) rows ws none in
    some (ap (λ k. reply_each at (position_reply row.client row.request k) (waiting_left_by at count rest ws (asked_by at row))) (sym long)
    ∙ back_none (replies_by at count rest ws) said (sym (cond-false (nat_lt (length rest) count) [] (replies_by at count rest ws ++ said) past) ∙ here))
