-- Where the replica of a number stands, which is the least busy one, and whether all have so many rows.
use Rattle.std.proofs.Common.{◌≡◌, ℕ, suc, ◌+◌, ◌<◌, ◌≤◌, Bool, true, false, not, ◌&&◌, ◌==◌, nat_le, List, [], ◌∷◌, length, filter, Option, Some, None, refl, sym, ◌∙◌, ap, subst, arith, inl, inr, slice_index_or, if◌then◌else◌}
use Rattle.std.specs.List.{slice_get, list_all, list_any}
use Rattle.std.specs.Option.{MatchOption}
use Rattle.std.proofs.lemmas.Bool.{ne_eqb, eqb-true, or_cases, false_from_ne_true}
use Rattle.std.proofs.lemmas.Option.{slice_get-get_or, slice_get_cases, same_Some}
use Rattle.std.proofs.lemmas.List.Recursion.{or_from_places}
use Rattle.ritas_base.specs.declared.event.Event.{Event}
use Rattle.ritas_base.specs.History.{replicas}
use Rattle.keyed_channel.specs.KeyRow.{KeyRow}
use Rattle.ritas_core.specs.Machine.{CoreState}
use Rattle.ritas_core.specs.Stands.{Meaning}
use Rattle.replica.specs.declared.replica.Replica.{Replica}
use Rattle.world_model.specs.World.{Setting, states_of}
use Rattle.world_model.specs.Stands.{IsReplica}
use Rattle.world_model.specs.Agree.{rows_at}
use Rattle.node_loop.specs.Serving.{is_busy, busy, here, has_enough_rows}
use Rattle.node_loop.specs.Served.{AreHere}
use Rattle.node_loop.specs.Standing.{is_before_other}
use Rattle.node_loop.proofs.Heres.{as_here}
use Rattle.node_loop.proofs.Busy.{Least, least_more, none_pass, first_passes, all_pass, all_fails, below_next}

-- ---- the replica at a place

pub record IsAt {S E C : Type 0} (m : Meaning S E C KeyRow) (w : Setting) (es : List Event) (numbers : List ℕ) (reps : List (Replica S E C)) (k : ℕ) : Type 0 where
  pub rep : Replica S E C
  pub placed : slice_get numbers k ≡ Some (slice_index_or numbers k 0)
  pub read : slice_index_or reps k rep ≡ rep
  pub is : IsReplica m w (states_of w es) (slice_index_or numbers k 0) rep
  pub own : (w.keys (slice_index_or numbers k 0)).me ≡ slice_index_or numbers k 0

pub at_place : {S E C : Type 0} (m : Meaning S E C KeyRow) (w : Setting) (es : List Event) (numbers : List ℕ) (reps : List (Replica S E C)) (k : ℕ)
    → AreHere m w es numbers reps → k < length reps → IsAt m w es numbers reps k
at_place m w es numbers reps k stand within = elim (slice_get_cases reps k).1 [
  | inl found ↦
      let many = stand.many in
      let placed : slice_get numbers k ≡ Some (slice_index_or numbers k 0) = slice_get-get_or numbers k 0 (omega arith) in
      let is : IsReplica m w (states_of w es) (slice_index_or numbers k 0) found.0 = stand.each k (slice_index_or numbers k 0) found.0 placed found.2 in
      record {
        rep = found.0;
        placed = placed;
        read = found.3;
        is = is;
        own = (stand.kind.own (slice_index_or numbers k 0) (stand.kind.within (slice_index_or numbers k 0) is.correct)).0;
      }
  | inr past ↦ let above = past.0 in absurd (omega arith)
]

any_at : (test : ℕ → Bool) (xs : List ℕ) → list_any test xs ≡ true → (k : ℕ) × (k < length xs) × (test (slice_index_or xs k 0) ≡ true)
any_at test [] some = absurd (cc)
any_at test (x ∷ xs) some = elim (or_cases (test x) (list_any test xs) some) [
  | inl first ↦ (0, omega arith, first)
  | inr later ↦ let after = any_at test xs later in let within = after.1 in (suc after.0, omega arith, after.2)
]

-- where a correct replica stands
pub record StandsIn (numbers : List ℕ) (i : ℕ) : Type 0 where
  pub place : ℕ
  pub within : place < length numbers
  pub is : slice_index_or numbers place 0 ≡ i

pub place_in : {S E C : Type 0} (m : Meaning S E C KeyRow) (w : Setting) (es : List Event) (numbers : List ℕ) (reps : List (Replica S E C)) (i : ℕ)
    → AreHere m w es numbers reps → w.is_correct i ≡ true → StandsIn numbers i
place_in m w es numbers reps i stand right =
    let found = any_at (λ j. j == i) numbers (sym (stand.named i) ∙ right) in
    record { place = found.0; within = found.1; is = eqb-true (slice_index_or numbers found.0 0) i found.2 }

-- ---- the place of a number

-- within a list what is read doesn't depend on the default
get_same : {X : Type 0} (xs : List X) (k : ℕ) (x y : X) → k < length xs → slice_index_or xs k x ≡ slice_index_or xs k y
get_same xs k x y within = same_Some (slice_index_or xs k x) (slice_index_or xs k y) (sym (slice_get-get_or xs k x within) ∙ slice_get-get_or xs k y within)

-- the replica that was read at a place
pub read_replica : {S E C : Type 0} (m : Meaning S E C KeyRow) (w : Setting) (es : List Event) (numbers : List ℕ) (reps xs : List (Replica S E C)) (k : ℕ) (rep : Replica S E C)
    → AreHere m w es numbers reps → xs ≡ reps → k < length xs → rep ≡ slice_index_or xs k rep → IsReplica m w (states_of w es) (slice_index_or numbers k 0) rep
read_replica {S = S} {E = E} {C = C} m w es numbers reps xs k rep stand same within is =
    let found = at_place m w es numbers xs k (as_here m w es numbers reps xs same stand) within in
    let one : found.rep ≡ rep = sym found.read ∙ get_same xs k found.rep rep within ∙ sym is in
    let P : Replica S E C → Type 0 = λ y. IsReplica m w (states_of w es) (slice_index_or numbers k 0) y in
    subst P one found.is

own_number : {S E C : Type 0} (m : Meaning S E C KeyRow) (w : Setting) (es : List Event) (numbers : List ℕ) (reps : List (Replica S E C)) (i : ℕ)
    → AreHere m w es numbers reps → w.is_correct i ≡ true → (w.keys i).me ≡ i
own_number m w es numbers reps i stand right = (stand.kind.own i (stand.kind.within i right)).0

-- has the number that stands there
pub number_read : {S E C : Type 0} (m : Meaning S E C KeyRow) (w : Setting) (es : List Event) (numbers : List ℕ) (reps xs : List (Replica S E C)) (k : ℕ) (rep : Replica S E C) (number : ℕ)
    → AreHere m w es numbers reps → xs ≡ reps → k < length xs → rep ≡ slice_index_or xs k rep
    → ((v : Setting) (states : ℕ → CoreState) (i : ℕ) → IsReplica m v states i rep → number ≡ (v.keys i).me) → number ≡ slice_index_or numbers k 0
number_read m w es numbers reps xs k rep number stand same within is has =
    let there = read_replica m w es numbers reps xs k rep stand same within is in
    has w (states_of w es) (slice_index_or numbers k 0) there ∙ own_number m w es numbers reps (slice_index_or numbers k 0) stand there.correct

pub placed : {S E C : Type 0} (m : Meaning S E C KeyRow) (w : Setting) (es : List Event) (numbers : List ℕ) (reps xs : List (Replica S E C)) (k at : ℕ) (rep : Replica S E C)
    → AreHere m w es numbers reps → xs ≡ reps → k < length xs → rep ≡ slice_index_or xs k rep → slice_index_or numbers k 0 ≡ at
    → (w.is_correct at ≡ true) × (slice_get numbers k ≡ Some at)
placed m w es numbers reps xs k at rep stand same within is number =
    let there = read_replica m w es numbers reps xs k rep stand same within is in
    let many = stand.many in
    let long = ap length same in
    (ap w.is_correct (sym number) ∙ there.correct, slice_get-get_or numbers k 0 (omega arith) ∙ ap (λ x. Some x) number)

pub not_placed : {S E C : Type 0} (m : Meaning S E C KeyRow) (w : Setting) (es : List Event) (numbers : List ℕ) (reps xs : List (Replica S E C)) (k at : ℕ)
    → AreHere m w es numbers reps → xs ≡ reps → length xs ≤ k → ((j : ℕ) → j < k → slice_index_or numbers j 0 ≡ at → ⊥) → w.is_correct at ≡ false
not_placed m w es numbers reps xs k at stand same past none =
    let many = stand.many in
    let long = ap length same in
    stand.named at ∙ or_from_places (list_any (λ j. j == at)) (λ j. j == at) refl (λ x ys. refl) numbers 0 (λ j within. ne_eqb (slice_index_or numbers j 0) at (none j (omega arith)))

-- ---- the least busy one

abbrev pub is_busy_at : Setting → List Event → ℕ → Bool
is_busy_at w es i = is_busy (states_of w es i).inbox

pub least_next : {S E C : Type 0} (m : Meaning S E C KeyRow) (w : Setting) (es : List Event) (numbers : List ℕ) (reps xs : List (Replica S E C)) (k : ℕ) (rep : Replica S E C) (least result : Option ℕ)
    → AreHere m w es numbers reps → xs ≡ reps → k < length xs → rep ≡ slice_index_or xs k rep
    → ((v : Setting) (states : ℕ → CoreState) (i : ℕ) → IsReplica m v states i rep
    → result ≡ (if is_busy (states i).inbox && is_before_other (v.keys i).me least then Some (v.keys i).me else least))
    → Least (is_busy_at w es) numbers k least → Least (is_busy_at w es) numbers (k + 1) result
least_next m w es numbers reps xs k rep least result stand same within is did so_far =
    let there = read_replica m w es numbers reps xs k rep stand same within is in
    let x = slice_index_or numbers k 0 in
    let Q : Option ℕ → Type 0 = λ o. Least (is_busy_at w es) numbers (k + 1) o in
    subst Q (sym (did w (states_of w es) x there ∙ ap (λ j. if is_busy_at w es x && is_before_other j least then Some j else least) (own_number m w es numbers reps x stand there.correct)))
    (least_more (is_busy_at w es) numbers k least so_far)

-- the least that passes a test is the first of all that do
pub least_of : {S E C : Type 0} (m : Meaning S E C KeyRow) (w : Setting) (es : List Event) (numbers : List ℕ) (reps xs : List (Replica S E C)) (test : ℕ → Bool) (k : ℕ) (least : Option ℕ)
    → AreHere m w es numbers reps → xs ≡ reps → k ≤ length xs → length xs ≤ k → Least test numbers k least
    → MatchOption least (filter test (here w) ≡ []) (λ i. (more : List ℕ) × (w.is_correct i ≡ true) × (test i ≡ true) × (filter test (here w) ≡ i ∷ more))
least_of m w es numbers reps xs test k None stand same below above none =
    none_pass w.is_correct test 0 w.numbers.n (λ j from under right.
    let many = stand.many in
    let long = ap length same in
    let found = place_in m w es numbers reps j stand right in
    let within = found.within in
    ap test (sym found.is) ∙ none found.place (omega arith))
least_of m w es numbers reps xs test k (Some i) stand same below above is =
    let many = stand.many in
    let long = ap length same in
    let place_within = is.within in
    let here_it_is = at_place m w es numbers reps is.place stand (omega arith) in
    let right : w.is_correct i ≡ true = ap w.is_correct (sym is.is) ∙ here_it_is.is.correct in
    let first = first_passes w.is_correct test 0 w.numbers.n i (omega arith) (let within = stand.kind.within i right in omega arith) right is.passes (λ j from before correct.
    false_from_ne_true (test j) (λ yes.
    let found = place_in m w es numbers reps j stand correct in
    let within = found.within in
    let at_least = is.no_less found.place (omega arith) (ap test found.is ∙ yes) in
    let same_number = found.is in
    absurd (omega arith))) in
    (first.0, right, is.passes, first.1)

pub least_is : {S E C : Type 0} (m : Meaning S E C KeyRow) (w : Setting) (es : List Event) (numbers : List ℕ) (reps xs : List (Replica S E C)) (k : ℕ) (least : Option ℕ)
    → AreHere m w es numbers reps → xs ≡ reps → k ≤ length xs → length xs ≤ k → Least (is_busy_at w es) numbers k least
    → MatchOption least (busy w es ≡ []) (λ i. (more : List ℕ) × (busy w es ≡ i ∷ more))
least_is m w es numbers reps xs k None stand same below above none = least_of m w es numbers reps xs (is_busy_at w es) k None stand same below above none
least_is m w es numbers reps xs k (Some i) stand same below above is =
    let first = least_of m w es numbers reps xs (is_busy_at w es) k (Some i) stand same below above is in
    (first.0, first.3)

-- ---- whether all have so many rows

abbrev pub has_rows_at : Setting → ℕ → List Event → ℕ → Bool
has_rows_at w until es i = nat_le until (length (rows_at w es i))

is_asked : (until : ℕ) → (until ≡ 0 → ⊥) → not (until == 0) ≡ true
is_asked until some = ap not (ne_eqb until 0 some)

pub all_have : {S E C : Type 0} (m : Meaning S E C KeyRow) (w : Setting) (es : List Event) (numbers : List ℕ) (reps xs : List (Replica S E C)) (until k : ℕ)
    → AreHere m w es numbers reps → xs ≡ reps → length xs ≤ k → (until ≡ 0 → ⊥) → ((j : ℕ) → j < k → has_rows_at w until es (slice_index_or numbers j 0) ≡ true)
    → true ≡ has_enough_rows w until es
all_have m w es numbers reps xs until k stand same past some all =
    let many = stand.many in
    let long = ap length same in
    let passes = all_pass w.is_correct (has_rows_at w until es) (replicas w.numbers.n) (λ i right.
    let place = place_in m w es numbers reps i stand right in
    let within = place.within in
    ap (has_rows_at w until es) (sym place.is) ∙ all place.place (omega arith)) in
    sym (ap (λ b. b && list_all (has_rows_at w until es) (here w)) (is_asked until some) ∙ passes)

-- what was read of one
pub rows_read : {S E C : Type 0} (m : Meaning S E C KeyRow) (w : Setting) (es : List Event) (numbers : List ℕ) (reps xs : List (Replica S E C)) (k until : ℕ) (rep : Replica S E C) (has : Bool)
    → AreHere m w es numbers reps → xs ≡ reps → k < length xs → rep ≡ slice_index_or xs k rep
    → ((v : Setting) (fs : List Event) (i : ℕ) → IsReplica m v (states_of v fs) i rep → has ≡ nat_le until (length (rows_at v fs i)))
    → has ≡ has_rows_at w until es (slice_index_or numbers k 0)
rows_read m w es numbers reps xs k until rep has stand same within is shows =
    shows w es (slice_index_or numbers k 0) (read_replica m w es numbers reps xs k rep stand same within is)

pub one_lacks : {S E C : Type 0} (m : Meaning S E C KeyRow) (w : Setting) (es : List Event) (numbers : List ℕ) (reps xs : List (Replica S E C)) (k until : ℕ) (rep : Replica S E C)
    → AreHere m w es numbers reps → xs ≡ reps → k < length xs → rep ≡ slice_index_or xs k rep → (until ≡ 0 → ⊥) → has_rows_at w until es (slice_index_or numbers k 0) ≡ false
    → false ≡ has_enough_rows w until es
one_lacks m w es numbers reps xs k until rep stand same within is some lacks =
    let there = read_replica m w es numbers reps xs k rep stand same within is in
    let i = slice_index_or numbers k 0 in
    let fails = all_fails w.is_correct (has_rows_at w until es) 0 w.numbers.n i (omega arith) (let below = stand.kind.within i there.correct in omega arith) there.correct lacks in
    sym (ap (λ b. b && list_all (has_rows_at w until es) (here w)) (is_asked until some) ∙ fails)

-- the numbers so far all have them
pub have_more : (w : Setting) (es : List Event) (numbers : List ℕ) (until k : ℕ) → ((j : ℕ) → j < k → has_rows_at w until es (slice_index_or numbers j 0) ≡ true)
    → has_rows_at w until es (slice_index_or numbers k 0) ≡ true → (j : ℕ) → j < k + 1 → has_rows_at w until es (slice_index_or numbers j 0) ≡ true
have_more w es numbers until k before now = below_next (λ j. has_rows_at w until es (slice_index_or numbers j 0) ≡ true) k before now

pub others_more : (numbers : List ℕ) (at k : ℕ) → ((j : ℕ) → j < k → slice_index_or numbers j 0 ≡ at → ⊥) → (slice_index_or numbers k 0 ≡ at → ⊥)
    → (j : ℕ) → j < k + 1 → slice_index_or numbers j 0 ≡ at → ⊥
others_more numbers at k before now = below_next (λ j. slice_index_or numbers j 0 ≡ at → ⊥) k before now
