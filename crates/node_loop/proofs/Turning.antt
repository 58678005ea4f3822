-- A turn that is wanted is one at a correct replica, as is the closing of an epoch, and a peer that is to be asked is one of its peers.
use Rattle.std.proofs.Common.{◌≡◌, ℕ, suc, ◌+◌, ◌<◌, Bool, true, false, List, [], ◌∷◌, ◌++◌, filter, map, nat_le, Option, Some, None, refl, subst, arith, if◌then◌else◌}
use Rattle.std.specs.List.{AllByRecursion, flat_map, range_with_len}
use Rattle.ritas_base.specs.declared.event.Event.{Event}
use Rattle.ritas_base.specs.History.{replicas}
use Rattle.world_model.specs.World.{Setting}
use Rattle.node_loop.specs.declared.peers.Pair.{Pair}
use Rattle.node_loop.specs.Peers.{Peers, is_due_of}
use Rattle.node_loop.specs.Resending.{mark_at, peers_due, due}
use Rattle.node_loop.specs.declared.limits.Closing.{Closing}
use Rattle.node_loop.specs.declared.limits.Limits.{Limits}
use Rattle.node_loop.specs.Serving.{Want, Begins, Ends, Finishes, Overflows, Turns, Closes, Halts, Reminds, Asks, here, busy, is_epoch_over, has_enough_rows, kept_bytes, overfull, overflow_or, turn_or, remind_or, wishes_to_close, wishing, close_or, closing_or, halt_or, wants_of}
use Rattle.node_loop.specs.Waiting.{Waiting}

abbrev AreCorrect : Setting → List ℕ → Type 0
AreCorrect w is = AllByRecursion (λ i. w.is_correct i ≡ true) is

all_correct : (w : Setting) (is : List ℕ) → AreCorrect w (filter w.is_correct is)
all_correct w [] = tt
all_correct w (i ∷ is) = go (w.is_correct i) refl (all_correct w is)
  where
    go : (b : Bool) → w.is_correct i ≡ b → AreCorrect w (filter w.is_correct is) → AreCorrect w (if b then i ∷ filter w.is_correct is else filter w.is_correct is)
    go true is_so rest = (is_so, rest)
    go false is_so rest = rest

some_pass : (P : ℕ → Type 0) (test : ℕ → Bool) (xs : List ℕ) → AllByRecursion P xs → AllByRecursion P (filter test xs)
some_pass P test [] all = tt
some_pass P test (x ∷ xs) all = go (test x) (some_pass P test xs all.1)
  where
    go : (b : Bool) → AllByRecursion P (filter test xs) → AllByRecursion P (if b then x ∷ filter test xs else filter test xs)
    go true rest = (all.0, rest)
    go false rest = rest

correct_here : (w : Setting) → AreCorrect w (here w)
correct_here w = all_correct w (replicas w.numbers.n)

correct_busy : (w : Setting) (es : List Event) → AreCorrect w (busy w es)
correct_busy w es = some_pass (λ i. w.is_correct i ≡ true) _ (here w) (correct_here w)

-- ---- a peer that is due

abbrev IsPeerOf : Setting → Pair → Type 0
IsPeerOf w pair = (w.is_correct pair.at ≡ true) × (pair.peer < w.numbers.n)

all_below : (a n m : ℕ) → a + n ≡ m → AllByRecursion (λ j. j < m) (range_with_len a n)
all_below a Prim.Native.Nat.zero m is = tt
all_below a (suc n) m is = (omega (arith, is), all_below (a + 1) n m (omega (arith, is)))

pairs_of : (w : Setting) (i : ℕ) (js : List ℕ) → w.is_correct i ≡ true → AllByRecursion (λ j. j < w.numbers.n) js
    → AllByRecursion (IsPeerOf w) (map (λ j. record { at = i; peer = j }) js)
pairs_of w i [] right below = tt
pairs_of w i (j ∷ js) right below = ((right, below.0), pairs_of w i js right below.1)

both_peers : (w : Setting) (xs ys : List Pair) → AllByRecursion (IsPeerOf w) xs → AllByRecursion (IsPeerOf w) ys → AllByRecursion (IsPeerOf w) (xs ++ ys)
both_peers w [] ys first second = second
both_peers w (x ∷ xs) ys first second = (first.0, both_peers w xs ys first.1 second)

due_peers : (w : Setting) (es : List Event) (p : Peers) (is : List ℕ) → AreCorrect w is → AllByRecursion (IsPeerOf w) (flat_map (peers_due w es p) is)
due_peers w es p [] right = tt
due_peers w es p (i ∷ is) right =
    let below = some_pass (λ j. j < w.numbers.n) (λ j. is_due_of (p.marks i j) (mark_at w es i j)) (replicas w.numbers.n) (all_below 0 w.numbers.n w.numbers.n (omega arith)) in
    both_peers w (peers_due w es p i) (flat_map (peers_due w es p) is) (pairs_of w i _ right.0 below) (due_peers w es p is right.1)

-- ---- what is wanted

-- where no first item is left: a turn is taken and an epoch is closed at a correct replica, and a peer of one is asked
abbrev pub MayBeWanted : Setting → Want → Type 0
MayBeWanted w (Begins item) = ⊥
MayBeWanted w Ends = Unit {0}
MayBeWanted w Finishes = Unit {0}
MayBeWanted w (Overflows x) = Unit {0}
MayBeWanted w (Turns i) = w.is_correct i ≡ true
MayBeWanted w (Closes i epoch) = w.is_correct i ≡ true
MayBeWanted w Halts = Unit {0}
MayBeWanted w (Reminds i j) = (w.is_correct i ≡ true) × (j < w.numbers.n)
MayBeWanted w Asks = Unit {0}

module _ (w : Setting) where
  halts_may : (b : Bool) (pairs : List Pair) → AllByRecursion (IsPeerOf w) pairs → MayBeWanted w (if b then Halts else remind_or pairs)
  halts_may true pairs all = tt
  halts_may false [] all = tt
  halts_may false (pair ∷ pairs) all = all.0

  close_may : (epoch : ℕ) (is : List ℕ) (other : Want) → AreCorrect w is → MayBeWanted w other → MayBeWanted w (close_or epoch is other)
  close_may epoch [] other all may = may
  close_may epoch (i ∷ is) other all may = all.0

  closing_may : (closing : Option Closing) (es : List Event) (ws : Waiting) (other : Want) → MayBeWanted w other → MayBeWanted w (closing_or w closing es ws other)
  closing_may None es ws other may = may
  closing_may (Some closing) es ws other may =
      close_may closing.epoch (wishing w closing es ws) other (some_pass (λ i. w.is_correct i ≡ true) (wishes_to_close w closing es ws) (here w) (correct_here w)) may

  turn_may : (is : List ℕ) (other : Want) → AreCorrect w is → MayBeWanted w other → MayBeWanted w (turn_or is other)
  turn_may [] other all may = may
  turn_may (i ∷ is) other all may = all.0

  overflow_may : (bytes : ℕ → ℕ) (is : List ℕ) (other : Want) → MayBeWanted w other → MayBeWanted w (overflow_or bytes is other)
  overflow_may bytes [] other may = may
  overflow_may bytes (i ∷ is) other may = tt

  done_may : (b : Bool) (other : Want) → MayBeWanted w other → MayBeWanted w (if b then Finishes else other)
  done_may true other may = tt
  done_may false other may = may

  over_may : (b : Bool) (other : Want) → MayBeWanted w other → MayBeWanted w (if b then Ends else other)
  over_may true other may = tt
  over_may false other may = may

  pub may_be_wanted : (limits : Limits) (es : List Event) (taken : ℕ) (ws : Waiting) (p : Peers) → MayBeWanted w (wants_of w limits es taken ws p)
  may_be_wanted limits es taken ws p =
      let halts = halts_may (nat_le limits.items taken) (due w es (here w) p) (due_peers w es p (here w) (correct_here w)) in
      let turns = turn_may (busy w es) (closing_or w limits.closing es ws (halt_or w limits es taken p)) (correct_busy w es) (closing_may limits.closing es ws (halt_or w limits es taken p) halts) in
      over_may (is_epoch_over w es) _ (done_may (has_enough_rows w limits.rows es) _ (overflow_may (kept_bytes w p) (overfull w p) _ turns))

  pub turns_correct : (limits : Limits) (es : List Event) (taken : ℕ) (ws : Waiting) (p : Peers) (at : ℕ) → wants_of w limits es taken ws p ≡ Turns at → w.is_correct at ≡ true
  turns_correct limits es taken ws p at is = subst (MayBeWanted w) is (may_be_wanted limits es taken ws p)

  pub closes_correct : (limits : Limits) (es : List Event) (taken : ℕ) (ws : Waiting) (p : Peers) (at epoch : ℕ) → wants_of w limits es taken ws p ≡ Closes at epoch → w.is_correct at ≡ true
  closes_correct limits es taken ws p at epoch is = subst (MayBeWanted w) is (may_be_wanted limits es taken ws p)

  -- a peer of a replica that is to be asked is one of its peers, and the replica is here
  pub reminds_peer : (limits : Limits) (es : List Event) (taken : ℕ) (ws : Waiting) (p : Peers) (i j : ℕ) → wants_of w limits es taken ws p ≡ Reminds i j
      → (w.is_correct i ≡ true) × (j < w.numbers.n)
  reminds_peer limits es taken ws p i j is = subst (MayBeWanted w) is (may_be_wanted limits es taken ws p)
