-- What the keepers of replicas keep, and whom they mark.
use Rattle.std.proofs.Common.{◌≡◌, ℕ, zero, suc, ◌+◌, ◌<◌, ◌≤◌, Bool, true, false, List, [], ◌∷◌, map, filter, Option, None, refl, sym, ◌∙◌, ap, ap₂, arith, inl, inr, slice_index_or}
use Rattle.std.specs.List.{sum_by, range_with_len}
use Rattle.std.proofs.lemmas.Bool.{cases_eq, cond-true, cond-false}
use Rattle.std.proofs.lemmas.List.{map-id}
use Rattle.std.proofs.lemmas.List.FromFn.{sum_by-map-range_with_len_more}
use Rattle.ritas_base.specs.declared.event.Event.{Event}
use Rattle.ritas_base.specs.History.{replicas}
use Rattle.layer_api.specs.Service.{ServiceRules, Seat}
use Rattle.layer_api.specs.Words.{Word}
use Rattle.ooc_buffers.specs.Lists.{held_bytes}
use Rattle.ritas_core.specs.Machine.{CoreState}
use Rattle.ritas_core.specs.Parts.{parts}
use Rattle.ritas_core.specs.Rules.{Rules, seat_of}
use Rattle.world_model.specs.World.{Setting, rules_at, states_of}
use Rattle.node_loop.specs.declared.peers.Keeper.{Keeper}
use Rattle.node_loop.specs.declared.peers.Early.{Early}
use Rattle.node_loop.specs.declared.peers.Pair.{Pair}
use Rattle.node_loop.specs.Peers.{Peers, is_due_of}
use Rattle.node_loop.specs.PeersStanding.{IsKeeper}
use Rattle.node_loop.specs.Resending.{replica_progress, mark_at, peers_due}

-- ---- how far a replica is

-- the completed rounds and the first so many bases
abbrev pub come_by : Rules → CoreState → ℕ → ℕ
come_by r st count = let words = (parts r st.history).words in
    r.service.completed (seat_of r) words + sum_by (λ o. r.service.base (seat_of r) words o) (replicas count)

-- a sum over the first numbers
sum_more : (f : ℕ → ℕ) (n : ℕ) → sum_by f (range_with_len 0 (n + 1)) ≡ sum_by f (range_with_len 0 n) + f n
sum_more f n =
    ap (sum_by f) (sym (map-id (range_with_len 0 (n + 1))))
    ∙ (sum_by-map-range_with_len_more f (λ (k : ℕ). k) 0 n n (omega arith)
    ∙ ap (λ (xs : List ℕ). sum_by f xs + f n) (map-id (range_with_len 0 n)))

-- none of them yet
pub come_none : (w : Setting) (es : List Event) (i value : ℕ) (service : ServiceRules) → w.service ≡ service
    → value ≡ service.completed (seat_of (rules_at w i)) (parts (rules_at w i) (states_of w es i).history).words
    → value ≡ come_by (rules_at w i) (states_of w es i) 0
come_none w es i value service same is =
    let words : List Word = (parts (rules_at w i) (states_of w es i).history).words in
    let none : w.service.completed (seat_of (rules_at w i)) words ≡ w.service.completed (seat_of (rules_at w i)) words + 0 = omega arith in
    is ∙ (ap (λ (s : ServiceRules). s.completed (seat_of (rules_at w i)) words) (sym same) ∙ none)

-- one more
pub come_more : (w : Setting) (es : List Event) (i count so_far base : ℕ) (service : ServiceRules) → w.service ≡ service
    → so_far ≡ come_by (rules_at w i) (states_of w es i) count
    → base ≡ service.base (seat_of (rules_at w i)) (parts (rules_at w i) (states_of w es i).history).words count
    → so_far + base ≡ come_by (rules_at w i) (states_of w es i) (count + 1)
come_more w es i count so_far base service same is more =
    let words : List Word = (parts (rules_at w i) (states_of w es i).history).words in
    let seat : Seat = seat_of (rules_at w i) in
    let f : ℕ → ℕ = λ o. w.service.base seat words o in
    let here : base ≡ f count = more ∙ ap (λ (s : ServiceRules). s.base seat words count) (sym same) in
    let sum : sum_by f (range_with_len 0 (count + 1)) ≡ sum_by f (range_with_len 0 count) + f count = sum_more f count in
    omega (arith, is, here, sum)

-- ---- who is due

-- none of a range of numbers passes
none_of : (q : ℕ → Bool) (a n : ℕ) → ((k : ℕ) → a ≤ k → k < a + n → q k ≡ false) → filter q (range_with_len a n) ≡ []
none_of q a zero none = refl
none_of q a (suc n) none =
    cond-false (q a) (a ∷ filter q (range_with_len (a + 1) n)) (filter q (range_with_len (a + 1) n)) (none a (omega arith) (omega arith))
    ∙ none_of q (a + 1) n (λ k from below. none k (omega arith) (omega arith))

-- the first that passes is in front
first_of : (q : ℕ → Bool) (a n i : ℕ) → a ≤ i → i < a + n → q i ≡ true → ((k : ℕ) → a ≤ k → k < i → q k ≡ false)
    → (more : List ℕ) × (filter q (range_with_len a n) ≡ i ∷ more)
first_of q a zero i from below passes none = absurd (omega arith)
first_of q a (suc n) i from below passes none = elim (cases_eq a i) [
  | inl same ↦
      let xs = range_with_len (a + 1) n in
      (filter q xs, ap (λ x. filter q (x ∷ xs)) same ∙ cond-true (q i) (i ∷ filter q xs) (filter q xs) passes)
  | inr other ↦
      let after = first_of q (a + 1) n i (omega arith) (omega arith) passes (λ k above under. none k (omega arith) under) in
      let xs = range_with_len (a + 1) n in
      (after.0, cond-false (q a) (a ∷ filter q xs) (filter q xs) (none a (omega arith) (omega arith)) ∙ after.1)
]

-- whether a peer of a replica is due
abbrev pub is_due_at : Setting → List Event → Peers → ℕ → ℕ → Bool
is_due_at w es p i j = is_due_of (p.marks i j) (mark_at w es i j)

abbrev pub pair_of : ℕ → ℕ → Pair
pair_of i j = record { at = i; peer = j }

pub none_due : (w : Setting) (es : List Event) (p : Peers) (i : ℕ) → ((j : ℕ) → j < w.numbers.n → is_due_at w es p i j ≡ false) → peers_due w es p i ≡ []
none_due w es p i none = ap (map (pair_of i)) (none_of (is_due_at w es p i) 0 w.numbers.n (λ j from below. none j (omega arith)))

pub first_due : (w : Setting) (es : List Event) (p : Peers) (i j : ℕ) → j < w.numbers.n → is_due_at w es p i j ≡ true → ((k : ℕ) → k < j → is_due_at w es p i k ≡ false)
    → (more : List Pair) × (peers_due w es p i ≡ record { at = i; peer = j } ∷ more)
first_due w es p i j below passes none =
    let found = first_of (is_due_at w es p i) 0 w.numbers.n j (omega arith) (omega arith) passes (λ k from before. none k before) in
    (map (pair_of i) found.0, ap (map (pair_of i)) found.1)

-- no peer is marked
pub no_marks : (w : Setting) (es : List Event) (p : Peers) (i : ℕ) (keeper : Keeper) → IsKeeper w.mode.version w.numbers.n i keeper p
    → ((j : ℕ) → slice_index_or keeper.marks.items j None ≡ None) → peers_due w es p i ≡ []
no_marks w es p i keeper is none =
    none_due w es p i (λ j below. ap (λ (o : Option Early). is_due_of o (mark_at w es i j)) (sym (is.marked.each j below) ∙ none j))

-- what was read of a peer
pub due_read : (w : Setting) (es : List Event) (p : Peers) (i j progress held : ℕ) (keeper : Keeper) (was : Option Early) (said : Bool) → IsKeeper w.mode.version w.numbers.n i keeper p → j < w.numbers.n
    → progress ≡ replica_progress (rules_at w i) (states_of w es i) w.numbers.n → held ≡ held_bytes (states_of w es i).held j
    → was ≡ slice_index_or keeper.marks.items j None → said ≡ is_due_of was (record { progress = progress; held = held }) → said ≡ is_due_at w es p i j
due_read w es p i j progress held keeper was said is below come holds read saw =
    let now : record { progress = progress; held = held } ≡ mark_at w es i j = ap₂ (λ (x y : ℕ). record { progress = x; held = y }) come holds in
    saw ∙ ap₂ is_due_of (read ∙ is.marked.each j below) now
