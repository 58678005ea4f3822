-- What is released, list by list.
use Rattle.std.specs.Prelude.{◌≡◌, ℕ, ◌+◌, ◌<◌, ◌≤◌, ◌-◌, zero, suc, nat_lt, Bool, true, false, not, cond, List, [], ◌∷◌, ◌++◌, length, map, take, drop, refl}
use Rattle.std.proofs.Common.{sym, ◌∙◌, ap, ap₂, subst, inl, inr, arith, append_assoc, length-append, get_or}
use Rattle.std.proofs.Math.ListN.{set}
use Rattle.std.proofs.lemmas.Bool.{cases_Bool, cond-true, cond-false, lt-ltb}
use Rattle.std.proofs.lemmas.List.Edits.{map_over_more}
use Rattle.std.proofs.lemmas.List.Sums.{sum_by-append, sum_by-cons}
use Rattle.std.proofs.lemmas.List.{take_more, take-append-drop, take-append-le, take_all, drop_all, append-nil, length-map, length-take-le, get_or-append_right, get_or-drop}
use Rattle.ritas_base.specs.declared.item.Item.{Item}
use Rattle.ritas_base.specs.declared.slot.Slot.{Slot}
use Rattle.ritas_base.specs.Quorums.{count_yes, count_no}
use Rattle.ooc_buffers.specs.Groups.{AreRight, AreAllRight}
use Rattle.ooc_buffers.specs.Lists.{HeldItem, passing, failing, released, remaining, busy_peers}

-- the items of one list that pass
abbrev pub open_items : (Item → Bool) → List HeldItem → List Item
open_items t kept = map (λ k. k.item) (passing t kept)

pub released-append : (t : Item → Bool) (xs ys : List (List HeldItem)) → released t (xs ++ ys) ≡ released t xs ++ released t ys
released-append t [] ys = refl
released-append t (x ∷ xs) ys =
    ap (λ (l : List Item). open_items t x ++ l) (released-append t xs ys) ∙ sym (append_assoc (open_items t x) (released t xs) (released t ys))

-- one list more
pub released_more : (t : Item → Bool) (xs : List (List HeldItem)) (i : ℕ) (d : List HeldItem) → i < length xs
    → released t (take (i + 1) xs) ≡ released t (take i xs) ++ open_items t (get_or xs i d)
released_more t xs i d within =
    ap (released t) (take_more xs i d within)
    ∙ (released-append t (take i xs) (get_or xs i d ∷ []) ∙ ap (λ (l : List Item). released t (take i xs) ++ l) (append-nil (open_items t (get_or xs i d))))

-- how many pass, with one list more
pub count_more : (t : Item → Bool) (xs : List (List HeldItem)) (i : ℕ) (d : List HeldItem) (room : ℕ) → i < length xs → room ≡ length (released t (take i xs))
    → room + length (passing t (get_or xs i d)) ≡ length (released t (take (i + 1) xs))
count_more t xs i d room within is =
    let more = ap length (released_more t xs i d within) ∙ length-append (released t (take i xs)) (open_items t (get_or xs i d)) in
    omega (arith, is, more, length-map (passing t (get_or xs i d)) (λ k. k.item))

-- the items of the next list have room
pub room_more : (t : Item → Bool) (xs : List (List HeldItem)) (i : ℕ) (d : List HeldItem) → i < length xs
    → length (released t (take i xs)) + length (passing t (get_or xs i d)) ≤ length (released t xs)
room_more t xs i d within =
    let whole : length (released t xs) ≡ length (released t (take (i + 1) xs)) + length (released t (drop (i + 1) xs)) =
    ap (λ (l : List (List HeldItem)). length (released t l)) (sym (take-append-drop (i + 1) xs))
    ∙ (ap length (released-append t (take (i + 1) xs) (drop (i + 1) xs)) ∙ length-append (released t (take (i + 1) xs)) (released t (drop (i + 1) xs))) in
    omega (arith, whole, count_more t xs i d (length (released t (take i xs))) within refl)

-- nothing passes, and all is kept
all_fail : (t : Item → Bool) (kept : List HeldItem) → length (passing t kept) ≡ 0 → failing t kept ≡ kept
all_fail t [] none = refl
all_fail t (k ∷ kept) none =
    elim (cases_Bool (t k.item)) [
      | inl passes ↦
          let more = ap length (cond-true (t k.item) (k ∷ passing t kept) (passing t kept) passes) in
          absurd (omega (arith, none, more))
      | inr fails ↦
          let same = ap length (cond-false (t k.item) (k ∷ passing t kept) (passing t kept) fails) in
          let one : failing t (k ∷ kept) ≡ k ∷ failing t kept = ap (λ (b : Bool). cond (not b) (k ∷ failing t kept) (failing t kept)) fails in
          one ∙ ap (λ (l : List HeldItem). k ∷ l) (all_fail t kept (sym same ∙ none))
    ]

pub none_released : (t : Item → Bool) (held : List (List HeldItem)) → length (released t held) ≡ 0 → remaining t held ≡ held
none_released t [] none = refl
none_released t (kept ∷ held) none =
    let sum = length-append (open_items t kept) (released t held) in
    let few = length-map (passing t kept) (λ k. k.item) in
    ap₂ (λ (l : List HeldItem) (ls : List (List HeldItem)). l ∷ ls)
    (all_fail t kept (omega (arith, none, sum, few)))
    (none_released t held (omega (arith, none, sum, few)))

-- where nothing is held for any peer, nothing is released, and all stays
pub idle_released : (t : Item → Bool) (held : List (List HeldItem)) → busy_peers held ≡ 0 → released t held ≡ []
idle_released t [] idle = refl
idle_released t ([] ∷ held) idle = idle_released t held (sym (count_no (λ (ks : List HeldItem). nat_lt 0 (length ks)) [] held refl) ∙ idle)
idle_released t ((k ∷ kept) ∷ held) idle =
    let one = count_yes (λ (ks : List HeldItem). nat_lt 0 (length ks)) (k ∷ kept) held (lt-ltb 0 (length (k ∷ kept)) (omega arith)) in
    absurd (omega (arith, one, idle))

pub idle_remaining : (t : Item → Bool) (held : List (List HeldItem)) → busy_peers held ≡ 0 → remaining t held ≡ held
idle_remaining t held idle = none_released t held (ap length (idle_released t held idle))

-- a list that wasn't come to yet is as it was
pub next_same : (f : List HeldItem → List HeldItem) (xs ys : List (List HeldItem)) (i : ℕ) (d : List HeldItem) → i < length xs
    → ys ≡ map f (take i xs) ++ drop i xs → get_or ys i d ≡ get_or xs i d
next_same f xs ys i d within is =
    let short : length (map f (take i xs)) ≡ i = length-map (take i xs) f ∙ (let l : i ≤ length xs = omega arith in length-take-le i xs l) in
    let here : i + (i - i) ≡ i = omega arith in
    ap (λ (l : List (List HeldItem)). get_or l i d) is
    ∙ (get_or-append_right (map f (take i xs)) (drop i xs) i i d short (omega arith)
    ∙ (get_or-drop i xs (i - i) d ∙ ap (λ (n : ℕ). get_or xs n d) here))

-- one list more was released
pub record IsReleasing (t : Item → Bool) (old : List (List HeldItem)) (i : ℕ) (now : List (List HeldItem)) (inbox inbox' : List Item) (len len' : ℕ) : Type 0 where
  pub lists : now ≡ map (failing t) (take i old) ++ drop i old
  pub items : inbox' ≡ inbox ++ released t (take i old)
  pub count : len' ≡ len + length (released t (take i old))

pub release_more : (t : Item → Bool) (old : List (List HeldItem)) (i : ℕ) (now : List (List HeldItem)) (inbox there inbox' : List Item) (len many len' : ℕ) (kept kept' : List HeldItem)
    → i < length old → kept ≡ get_or now i kept
    → kept' ≡ failing t (get_or now i kept) → inbox' ≡ there ++ open_items t (get_or now i kept) → len' ≡ many + length (passing t (get_or now i kept))
    → IsReleasing t old i now inbox there len many → IsReleasing t old (i + 1) (set now i kept') inbox inbox' len len'
release_more t old i now inbox there inbox' len many len' kept kept' within read keeps moved longer before =
    let same : kept ≡ get_or old i kept = read ∙ next_same (failing t) old now i kept within before.lists in
    let more : released t (take (i + 1) old) ≡ released t (take i old) ++ open_items t kept =
    released_more t old i kept within ∙ ap (λ (l : List HeldItem). released t (take i old) ++ open_items t l) (sym same) in
    let few : length (passing t kept) ≡ length (passing t (get_or now i kept)) = ap (λ (l : List HeldItem). length (passing t l)) read in
    record {
      lists = ap (set now i) (keeps ∙ ap (failing t) (sym read)) ∙ map_over_more (failing t) old now i kept within before.lists read;
      items =
          moved
          ∙ (ap₂ (λ (l : List Item) (ks : List HeldItem). l ++ open_items t ks) before.items (sym read)
          ∙ (append_assoc inbox (released t (take i old)) (open_items t kept) ∙ ap (λ (l : List Item). inbox ++ l) (sym more)));
      count = omega (arith, longer, few, before.count, ap length more, length-append (released t (take i old)) (open_items t kept), length-map (passing t kept) (λ k. k.item));
    }

-- one list more was thinned
pub forget_list : (t : Item → Bool) (old : List (List HeldItem)) (i : ℕ) (now : List (List HeldItem)) (kept kept' : List HeldItem)
    → i < length old → kept ≡ get_or now i kept → kept' ≡ failing t (get_or now i kept) → now ≡ map (failing t) (take i old) ++ drop i old
    → set now i kept' ≡ map (failing t) (take (i + 1) old) ++ drop (i + 1) old
forget_list t old i now kept kept' within read keeps before =
    ap (set now i) (keeps ∙ ap (failing t) (sym read)) ∙ map_over_more (failing t) old now i kept within before read

-- the room that the next list needs
pub room_next : (t : Item → Bool) (old : List (List HeldItem)) (i : ℕ) (now : List (List HeldItem)) (inbox there : List Item) (len many cap : ℕ) (kept : List HeldItem)
    → i < length old → kept ≡ get_or now i kept → len + length (released t old) ≤ cap
    → IsReleasing t old i now inbox there len many → many + length (passing t (get_or now i kept)) ≤ cap
room_next t old i now inbox there len many cap kept within read room before =
    let same : get_or now i kept ≡ get_or old i kept = next_same (failing t) old now i kept within before.lists in
    let few : length (passing t (get_or now i kept)) ≡ length (passing t (get_or old i kept)) = ap (λ (l : List HeldItem). length (passing t l)) same in
    omega (arith, room, before.count, few, room_more t old i kept within)

-- the held items of one peer are right
right_get : (right : Slot → Bool) (xs : List (List HeldItem)) (i : ℕ) (d : List HeldItem) → i < length xs → AreAllRight right xs → AreRight right (get_or xs i d)
right_get right [] i d within all = absurd (omega arith)
right_get right (x ∷ xs) zero d within all = all.0
right_get right (x ∷ xs) (suc i) d within all = right_get right xs i d (omega (arith, within)) all.1

pub right_at : (right : Slot → Bool) (xs : List (List HeldItem)) (i : ℕ) (kept : List HeldItem) → i < length xs → kept ≡ get_or xs i kept → AreAllRight right xs
    → AreRight right kept
right_at right xs i kept within is all = subst (λ (l : List HeldItem). AreRight right l) (sym is) (right_get right xs i kept within all)

pub right_next : (right : Slot → Bool) (f : List HeldItem → List HeldItem) (old now : List (List HeldItem)) (i : ℕ) (kept : List HeldItem) → i < length old → kept ≡ get_or now i kept
    → now ≡ map f (take i old) ++ drop i old → AreAllRight right old → AreRight right (get_or now i kept)
right_next right f old now i kept within is before all =
    subst (λ (l : List HeldItem). AreRight right l) (sym (next_same f old now i kept within before)) (right_get right old i kept within all)

pub few_next : (t : Item → Bool) (old : List (List HeldItem)) (i : ℕ) (now : List (List HeldItem)) (inbox there : List Item) (len many : ℕ) (kept : List HeldItem)
    → i < length old → IsReleasing t old i now inbox there len many → length (passing t (get_or now i kept)) ≤ length (released t old)
few_next t old i now inbox there len many kept within before =
    let same : get_or now i kept ≡ get_or old i kept = next_same (failing t) old now i kept within before.lists in
    let few : length (passing t (get_or now i kept)) ≡ length (passing t (get_or old i kept)) = ap (λ (l : List HeldItem). length (passing t l)) same in
    omega (arith, few, room_more t old i kept within)

-- where all items are right, those that are held are
all_right : (kept : List HeldItem) → AreRight (λ _. true) kept
all_right [] = tt
all_right (k ∷ kept) = (refl, all_right kept)

pub every_right : (held : List (List HeldItem)) → AreAllRight (λ _. true) held
every_right [] = tt
every_right (kept ∷ held) = (all_right kept, every_right held)

-- for how many something is held, with one peer more
busy_next : (xs : List (List HeldItem)) (i : ℕ) (d : List HeldItem) → i < length xs
    → busy_peers (take (i + 1) xs) ≡ busy_peers (take i xs) + cond {A = ℕ} (nat_lt 0 (length (get_or xs i d))) 1 0
busy_next xs i d within =
    let f = λ (kept : List HeldItem). cond {A = ℕ} (nat_lt 0 (length kept)) 1 0 in
    let more = ap busy_peers (take_more xs i d within) ∙ sum_by-append f (take i xs) (get_or xs i d ∷ []) in
    let one = sum_by-cons f (get_or xs i d) [] in
    omega (arith, more, one)

pub busy_more : (xs : List (List HeldItem)) (i : ℕ) (kept : List HeldItem) (busy : ℕ) (is_empty : Bool) → i < length xs → kept ≡ get_or xs i kept
    → is_empty ≡ not (nat_lt 0 (length kept)) → busy ≡ busy_peers (take i xs) → busy + cond {A = ℕ} is_empty 0 1 ≡ busy_peers (take (i + 1) xs)
busy_more xs i kept busy is_empty within here is before =
    let next = busy_next xs i kept within in
    let same = ap (λ (l : List HeldItem). cond {A = ℕ} (nat_lt 0 (length l)) 1 0) here in
    let turned = ap (λ (b : Bool). cond {A = ℕ} b 0 1) is ∙ by_turn (nat_lt 0 (length kept)) in
    omega (arith, next, same, turned, before)
  where
    by_turn : (b : Bool) → cond {A = ℕ} (not b) 0 1 ≡ cond {A = ℕ} b 1 0
    by_turn true = refl
    by_turn false = refl

-- all lists were gone over
pub all_mapped : (f : List HeldItem → List HeldItem) (n : ℕ) (old now : List (List HeldItem)) → now ≡ map f (take n old) ++ drop n old → length old ≤ n → now ≡ map f old
all_mapped f n old now is all =
    is
    ∙ (ap (λ (l : List (List HeldItem)). map f (take n old) ++ l) (drop_all n old all)
    ∙ (append-nil (map f (take n old)) ∙ ap (map f) (take_all n old all)))

-- the lists of a vector that has as many as before
pub all_kept : (f : List HeldItem → List HeldItem) (n : ℕ) (old now others : List (List HeldItem)) → now ≡ map f old → length old ≡ n → take n (now ++ others) ≡ map f old
all_kept f n old now others is many =
    let long = ap length is ∙ length-map old f in
    take-append-le n now others (omega (arith, long, many)) ∙ (take_all n now (omega (arith, long, many)) ∙ is)

pub no_items : (xs : List Item) → length xs ≡ 0 → xs ≡ []
no_items [] none = refl
no_items (x ∷ xs) none = absurd (omega (arith, none))
