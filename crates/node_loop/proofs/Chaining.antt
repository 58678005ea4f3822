-- Epochs of a chain: the command that closes one, and whether a replica may close it.
use Rattle.std.proofs.Common.{◌≡◌, ℕ, zero, suc, ◌+◌, ◌-◌, ◌<◌, ◌≤◌, Bool, true, false, not, ◌&&◌, ◌==◌, nat_le, List, [], ◌∷◌, ◌++◌, length, take, filter, Option, Some, None, refl, sym, ◌∙◌, ap, ap₂, subst, arith, slice_index_or, if◌then◌else◌}
use Rattle.std.specs.List.{slice_get, list_all}
use Rattle.std.proofs.lemmas.Bool.{both_ways, cond-false}
use Rattle.std.proofs.lemmas.List.{length-append}
use Rattle.std.proofs.lemmas.Option.{slice_get-get_or}
use Rattle.std.proofs.Math.Seq.{take-append_seam}
use Rattle.ritas_base.specs.declared.event.Event.{Event}
use Rattle.ritas_base.specs.History.{replicas}
use Rattle.keyed_channel.specs.KeyRow.{KeyRow}
use Rattle.command_log.specs.Rows.{Row, Start, has_ended}
use Rattle.command_log.specs.Standing.{Ledger, own_of}
use Rattle.layer_api.specs.Service.{ServiceRules}
use Rattle.ritas_core.specs.Machine.{CoreState}
use Rattle.ritas_core.specs.Rules.{seat_of}
use Rattle.ritas_core.specs.Stands.{Meaning}
use Rattle.replica.specs.declared.replica.Replica.{Replica}
use Rattle.world_model.specs.World.{Setting, rules_at, states_of}
use Rattle.world_model.specs.Agree.{words_of, rows_at, own_rows_at, completed_at}
use Rattle.world_model.specs.Stands.{IsReplica}
use Rattle.node_loop.specs.Chains.{closing_command, has_ended_at, has_place_at, is_given_at, least_number_at, next_number_at}
use Rattle.node_loop.specs.Served.{AreHere}
use Rattle.node_loop.specs.declared.limits.Closing.{Closing}
use Rattle.node_loop.specs.Serving.{Want, Closes, here, have_ended, is_epoch_over, may_close, wishing, close_or, closing_or}
use Rattle.node_loop.specs.Waiting.{Waiting}
use Rattle.node_loop.specs.Standing.{is_before_other}
use Rattle.node_loop.proofs.Busy.{Least, least_more, all_pass, all_fails}
use Rattle.node_loop.proofs.Seating.{at_place, place_in, read_replica, number_read, not_placed}

pub closing_size : (epoch : ℕ) → length (closing_command epoch) ≡ 8
closing_size epoch = refl

-- ---- whether a log has ended

front_of : (xs ys : List Row) → take (length (xs ++ ys) - length ys) (xs ++ ys) ≡ xs
front_of xs ys =
    let long : length (xs ++ ys) - length ys ≡ length xs = omega (arith, length-append xs ys) in
    ap (λ (n : ℕ). take n (xs ++ ys)) long ∙ take-append_seam xs ys

pub ended_is : (w : Setting) (es : List Event) (i : ℕ) (log : Ledger) (result : Bool) → result ≡ has_ended log.start (own_of log) → log.rows ≡ rows_at w es i → log.start ≡ w.start
    → result ≡ has_ended_at w es i
ended_is w es i log result is rows start =
    is ∙ (ap₂ (λ (s : Start) (rs : List Row). has_ended s (take (length rs - length s.base) rs)) start rows
    ∙ ap (has_ended w.start) (front_of (own_rows_at w es i) w.start.base))

-- ---- what a service shows

module _ (w : Setting) (es : List Event) (i : ℕ) (service : ServiceRules) (same : w.service ≡ service) where
  pub least_is : (me least : ℕ) → me ≡ i → least ≡ service.base (seat_of (rules_at w i)) (words_of w es i) me → least ≡ least_number_at w es i
  least_is me least own is =
      is ∙ (ap (service.base (seat_of (rules_at w i)) (words_of w es i)) own ∙ ap (λ (s : ServiceRules). s.base (seat_of (rules_at w i)) (words_of w es i) i) (sym same))

  pub number_is : (number : ℕ) → number ≡ service.next_number (seat_of (rules_at w i)) (words_of w es i) → number ≡ next_number_at w es i
  number_is number is = is ∙ ap (λ (s : ServiceRules). s.next_number (seat_of (rules_at w i)) (words_of w es i)) (sym same)

  pub given_is : (given : Bool) → given ≡ service.given (seat_of (rules_at w i)) (words_of w es i) → given ≡ is_given_at w es i
  given_is given is = is ∙ ap (λ (s : ServiceRules). s.given (seat_of (rules_at w i)) (words_of w es i)) (sym same)

  pub completed_is : (completed : ℕ) → completed ≡ service.completed (seat_of (rules_at w i)) (words_of w es i) → completed ≡ completed_at w es i
  completed_is completed is = is ∙ ap (λ (s : ServiceRules). s.completed (seat_of (rules_at w i)) (words_of w es i)) (sym same)

-- ---- whether a replica may close its epoch

all_of : (a b c d x y z u : Bool) → a ≡ x → b ≡ y → c ≡ z → d ≡ u → (a && (b && (c && d))) ≡ (x && (y && (z && u)))
all_of a b c d x y z u first second third fourth =
    ap₂ (λ (p q : Bool). p && q) first (ap₂ (λ (p q : Bool). p && q) second (ap₂ (λ (p q : Bool). p && q) third fourth))

module _ (w : Setting) (rounds : ℕ) (es : List Event) (i : ℕ) where
  abbrev ripe : Bool
  ripe = nat_le rounds (completed_at w es i)

  pub may_alone : w.start.chained ≡ false → false ≡ may_close w rounds es i
  may_alone none = sym (all_of w.start.chained ripe (not (has_ended_at w es i)) (has_place_at w es i) false ripe (not (has_ended_at w es i)) (has_place_at w es i) none refl refl refl)

  pub may_early : w.start.chained ≡ true → ripe ≡ false → false ≡ may_close w rounds es i
  may_early chained early = sym (all_of w.start.chained ripe (not (has_ended_at w es i)) (has_place_at w es i) true false (not (has_ended_at w es i)) (has_place_at w es i) chained early refl refl)

  pub may_late : w.start.chained ≡ true → ripe ≡ true → has_ended_at w es i ≡ true → false ≡ may_close w rounds es i
  may_late chained late ended = sym (all_of w.start.chained ripe (not (has_ended_at w es i)) (has_place_at w es i) true true false (has_place_at w es i) chained late (ap not ended) refl)

  pub may_now : (place : Bool) → w.start.chained ≡ true → ripe ≡ true → has_ended_at w es i ≡ false → place ≡ has_place_at w es i → place ≡ may_close w rounds es i
  may_now place chained late lasts is =
      is ∙ sym (all_of w.start.chained ripe (not (has_ended_at w es i)) (has_place_at w es i) true true true (has_place_at w es i) chained late (ap not lasts) refl)

-- ---- the least replica that passes a test

pub least_by_test : {S E C : Type 0} (m : Meaning S E C KeyRow) (w : Setting) (es : List Event) (numbers : List ℕ) (reps xs : List (Replica S E C)) (k : ℕ) (rep : Replica S E C) (test : ℕ → Bool)
    (number : ℕ) (least result : Option ℕ)
    → AreHere m w es numbers reps → xs ≡ reps → k < length xs → rep ≡ slice_index_or xs k rep
    → ((v : Setting) (states : ℕ → CoreState) (i : ℕ) → IsReplica m v states i rep → number ≡ (v.keys i).me)
    → (slice_get numbers k ≡ Some number → result ≡ (if test number && is_before_other number least then Some number else least))
    → Least test numbers k least → Least test numbers (k + 1) result
least_by_test m w es numbers reps xs k rep test number least result stand same within is has did so_far =
    let x = slice_index_or numbers k 0 in
    let mine : number ≡ x = number_read m w es numbers reps xs k rep number stand same within is has in
    let many = stand.many in
    let long = ap length same in
    let placed : slice_get numbers k ≡ Some x = slice_get-get_or numbers k 0 (omega arith) in
    let Q : Option ℕ → Type 0 = λ o. Least test numbers (k + 1) o in
    subst Q (sym (did (placed ∙ ap (λ (j : ℕ). Some j) (sym mine)) ∙ ap (λ (j : ℕ). if test j && is_before_other j least then Some j else least) mine))
    (least_more test numbers k least so_far)

-- ---- who closes the epoch

pub lesser_by : (number : ℕ) (least : Option ℕ) (some less passes before : Bool) → some ≡ passes → less ≡ before
    → (if some && less then Some number else least) ≡ (if passes && before then Some number else least)
lesser_by number least some less passes before first second = ap₂ (λ (a b : Bool). if a && b then Some number else least) first second

module _ (w : Setting) (closing : Option Closing) (es : List Event) (ws : Waiting) where
  pub closing_none : closing ≡ None → (other : Want) → closing_or w closing es ws other ≡ other
  closing_none none other = ap (λ (x : Option Closing). closing_or w x es ws other) none

  pub closing_nobody : (c : Closing) → closing ≡ Some c → wishing w c es ws ≡ [] → (other : Want) → closing_or w closing es ws other ≡ other
  closing_nobody c is none other = ap (λ (x : Option Closing). closing_or w x es ws other) is ∙ ap (λ (xs : List ℕ). close_or c.epoch xs other) none

  pub closing_first : (c : Closing) (i : ℕ) (more : List ℕ) → closing ≡ Some c → wishing w c es ws ≡ i ∷ more → (other : Want) → closing_or w closing es ws other ≡ Closes i c.epoch
  closing_first c i more is first other = ap (λ (x : Option Closing). closing_or w x es ws other) is ∙ ap (λ (xs : List ℕ). close_or c.epoch xs other) first

-- ---- whether the epoch is over

pub is_some_number : (n : ℕ) → (n == 0) ≡ false → 0 < n
is_some_number zero none = absurd (both_ways (zero == 0) none refl)
is_some_number (suc n) none = omega arith

-- without a replica it isn't
none_of : (p : ℕ → Bool) (xs : List ℕ) → ((k : ℕ) → p k ≡ false) → filter p xs ≡ []
none_of p [] none = refl
none_of p (x ∷ xs) none = cond-false (p x) (x ∷ filter p xs) (filter p xs) (none x) ∙ none_of p xs none

pub nobody_here : {S E C : Type 0} (m : Meaning S E C KeyRow) (w : Setting) (es : List Event) (numbers : List ℕ) (reps : List (Replica S E C)) → AreHere m w es numbers reps
    → length reps ≤ 0 → false ≡ is_epoch_over w es
nobody_here m w es numbers reps stand none =
    let nobody = none_of w.is_correct (replicas w.numbers.n) (λ i. not_placed m w es numbers reps reps 0 i stand refl none (λ j below. absurd (omega (arith, below)))) in
    sym (ap (have_ended w es) nobody)

-- what was read of one
pub ended_read : {S E C : Type 0} (m : Meaning S E C KeyRow) (w : Setting) (es : List Event) (numbers : List ℕ) (reps xs : List (Replica S E C)) (k : ℕ) (rep : Replica S E C) (has : Bool)
    → AreHere m w es numbers reps → xs ≡ reps → k < length xs → rep ≡ slice_index_or xs k rep
    → ((v : Setting) (fs : List Event) (i : ℕ) → IsReplica m v (states_of v fs) i rep → has ≡ has_ended_at v fs i)
    → has ≡ has_ended_at w es (slice_index_or numbers k 0)
ended_read m w es numbers reps xs k rep has stand same within is shows =
    shows w es (slice_index_or numbers k 0) (read_replica m w es numbers reps xs k rep stand same within is)

lasts_of : (w : Setting) (es : List Event) (is : List ℕ) → list_all (has_ended_at w es) is ≡ false → false ≡ have_ended w es is
lasts_of w es [] fails = refl
lasts_of w es (i ∷ is) fails = sym fails

-- nor where one lasts
pub one_lasts : {S E C : Type 0} (m : Meaning S E C KeyRow) (w : Setting) (es : List Event) (numbers : List ℕ) (reps xs : List (Replica S E C)) (k : ℕ) (rep : Replica S E C)
    → AreHere m w es numbers reps → xs ≡ reps → k < length xs → rep ≡ slice_index_or xs k rep → has_ended_at w es (slice_index_or numbers k 0) ≡ false → false ≡ is_epoch_over w es
one_lasts m w es numbers reps xs k rep stand same within is lasts =
    let there = read_replica m w es numbers reps xs k rep stand same within is in
    let i = slice_index_or numbers k 0 in
    let fails = all_fails w.is_correct (has_ended_at w es) 0 w.numbers.n i (omega arith) (let below = stand.kind.within i there.correct in omega arith) there.correct lasts in
    lasts_of w es (here w) fails

ended_of : (w : Setting) (es : List Event) (is : List ℕ) → list_all (has_ended_at w es) is ≡ true → list_all (λ (j : ℕ). false) is ≡ false → true ≡ have_ended w es is
ended_of w es [] passes some = absurd (both_ways (list_all (λ (j : ℕ). false) []) some refl)
ended_of w es (i ∷ is) passes some = sym passes

-- and it is where there is one and none does
pub all_ended : {S E C : Type 0} (m : Meaning S E C KeyRow) (w : Setting) (es : List Event) (numbers : List ℕ) (reps xs : List (Replica S E C)) (k : ℕ)
    → AreHere m w es numbers reps → xs ≡ reps → length xs ≤ k → 0 < length reps → ((j : ℕ) → j < k → has_ended_at w es (slice_index_or numbers j 0) ≡ true) → true ≡ is_epoch_over w es
all_ended m w es numbers reps xs k stand same past some all =
    let many = stand.many in
    let long = ap length same in
    let passes = all_pass w.is_correct (has_ended_at w es) (replicas w.numbers.n) (λ i right.
    let place = place_in m w es numbers reps i stand right in
    let within = place.within in
    ap (has_ended_at w es) (sym place.is) ∙ all place.place (omega arith)) in
    let first = at_place m w es numbers reps 0 stand some in
    let i = slice_index_or numbers 0 0 in
    let fails = all_fails w.is_correct (λ (j : ℕ). false) 0 w.numbers.n i (omega arith) (let below = stand.kind.within i first.is.correct in omega arith) first.is.correct refl in
    ended_of w es (here w) passes fails
