-- Logs that are prefixes of one list: which row stands where.
use Rattle.std.specs.Prelude.{◌≡◌, ℕ, zero, suc, ◌+◌, ◌-◌, ◌<◌, ◌≤◌, ◌==◌, Bool, true, false, ◌&&◌, nat_le, nat_lt, List, [], ◌∷◌, ◌++◌, length, drop, reverse, count_by, slice_get, Option, Some, None, if◌then◌else◌, cond, refl, ◌⊎◌}
use Rattle.std.proofs.Common.{sym, ◌∙◌, ap, ap₂, subst, inl, inr, arith, append_assoc}
use mathlib.Core.List.{reverse-cons}
use Rattle.std.specs.List.{range_with_len}
use Rattle.std.proofs.lemmas.Bool.{cases_Bool, cases_eq, and_parts, leb-true, ltb-true, lt-ltb, eqb-true, both_ways}
use Rattle.std.proofs.lemmas.List.{length-reverse, reverse-append, reverse-reverse, append-nil}
use Rattle.std.proofs.lemmas.List.Sums.{sum_by_push}
use Rattle.std.proofs.lemmas.List.FromFn.{length-range_with_len}
use Rattle.std.proofs.lemmas.Option.{slice_get_past}
use Rattle.std.proofs.lemmas.Slice.Eq.{bytes_eq-Decides}
use Rattle.ritas_base.specs.Numbers.{Numbers}
use Rattle.ritas_base.specs.History.{replicas}
use Rattle.ritas_base.specs.RangeLaws.{range_more}
use Rattle.ritas_base.specs.Quorums.{count_by-map, meet_two}
use Rattle.ritas_base.specs.Shortest.{option_or_some}
use Rattle.layer_api.specs.Service.{IsPart}
use Rattle.command_log.specs.Rows.{Row, row_at}
use Rattle.command_log.specs.Pieces.{Piece, row_size, rows_within, piece_front, most_rows, longest_log_piece}
use Rattle.observer.specs.Giving.{Gift, is_row, row_from, is_near, window, backed, gifts_at, keeping, GivenStep, Gave, Passed, rows_given, gifts_given}
use Rattle.observer.specs.Watching.{observed, entered_given, entered_given_so}
use Rattle.observer.specs.Laws.{AreWithin, LongestLaw, RowLaw, IsPieceOf, AreOfLogs, GivenRowLaw, LogLaw, PieceIsOfLog}
use Rattle.observer.proofs.Backing.{backed_is}

-- ---- rows of a prefix

slice_front : (xs ys : List Row) (i : ℕ) (r : Row) → slice_get xs i ≡ Some r → slice_get (xs ++ ys) i ≡ Some r
slice_front [] ys i r e = absurd (cc)
slice_front (x ∷ xs) ys zero r e = e
slice_front (x ∷ xs) ys (suc i) r e = slice_front xs ys i r e

slice_seam : (xs : List Row) (x : Row) (ys : List Row) → slice_get (xs ++ x ∷ ys) (length xs) ≡ Some x
slice_seam [] x ys = refl
slice_seam (z ∷ xs) x ys = slice_seam xs x ys

-- a row of a prefix is the row of the whole there
pub part_row : (xs ys : List Row) (at : ℕ) (r : Row) → IsPart xs ys → row_at xs at ≡ Some r → row_at ys at ≡ Some r
part_row xs ys at r part is =
    ap (λ l. row_at l at) (sym part.1)
    ∙ (ap (λ (l : List Row). slice_get l at) (reverse-append part.0 xs) ∙ slice_front (reverse xs) (reverse part.0) at r is)

pub part_trans : (xs ys zs : List Row) → IsPart xs ys → IsPart ys zs → IsPart xs zs
part_trans xs ys zs a b = (b.0 ++ a.0, append_assoc b.0 a.0 xs ∙ (ap (λ l. b.0 ++ l) a.1 ∙ b.1))

part_all : (xs : List Row) → IsPart xs xs
part_all xs = ([], refl)

-- a prefix and the row behind it are a prefix
next_part : (rows longest : List Row) (r : Row) → IsPart rows longest → row_at longest (length rows) ≡ Some r → IsPart (r ∷ rows) longest
next_part rows longest r part is = go (reverse part.0) refl
  where
    there : row_at longest (length rows) ≡ slice_get (reverse rows ++ reverse part.0) (length (reverse rows))
    there = ap (λ l. row_at l (length rows)) (sym part.1) ∙ ap₂ (λ (l : List Row) n. slice_get l n) (reverse-append part.0 rows) (sym (length-reverse rows))

    go : (more : List Row) → reverse part.0 ≡ more → IsPart (r ∷ rows) longest
    go [] e =
        let none : slice_get (reverse rows ++ reverse part.0) (length (reverse rows)) ≡ None =
        ap (λ l. slice_get (reverse rows ++ l) (length (reverse rows))) e
        ∙ (ap (λ (l : List Row). slice_get l (length (reverse rows))) (append-nil (reverse rows)) ∙ slice_get_past (reverse rows) (length (reverse rows)) (omega arith)) in
        absurd (let never : Some r ≡ None = sym is ∙ (there ∙ none) in cc)
    go (x ∷ xs) e =
        let here : Some x ≡ Some r = sym (slice_seam (reverse rows) x xs) ∙ (ap (λ l. slice_get (reverse rows ++ l) (length (reverse rows))) (sym e) ∙ (sym there ∙ is)) in
        let same : x ≡ r = cc in
        let all : part.0 ≡ reverse xs ++ x ∷ [] = sym (reverse-reverse part.0) ∙ (ap reverse e ∙ reverse-cons x xs) in
        (reverse xs, ap (λ q. reverse xs ++ q ∷ rows) (sym same) ∙ (sym (append_assoc (reverse xs) (x ∷ []) rows) ∙ (ap (λ l. l ++ rows) (sym all) ∙ part.1)))

-- ---- counting replicas

-- a set of replicas has only numbers below n
count_below : (c : ℕ → Bool) (n m : ℕ) → m ≤ n → count_by c (range_with_len 0 m) ≡ count_by (λ k. c k && nat_lt k n) (range_with_len 0 m)
count_below c n zero few = refl
count_below c n (suc m) few =
    let d : ℕ → Bool = λ k. c k && nat_lt k n in
    let more = ap (count_by c) (range_more 0 m m (omega arith)) ∙ sum_by_push (λ k. cond {A = ℕ} (c k) 1 0) (range_with_len 0 m) m in
    let also = ap (count_by d) (range_more 0 m m (omega arith)) ∙ sum_by_push (λ k. cond {A = ℕ} (d k) 1 0) (range_with_len 0 m) m in
    let before = count_below c n m (omega (arith, few)) in
    let same : cond {A = ℕ} (c m) 1 0 ≡ cond {A = ℕ} (d m) 1 0 = ap (λ (b : Bool). cond {A = ℕ} b 1 0) (sym (both (c m) (nat_lt m n) (lt-ltb m n (omega (arith, few))))) in
    omega (arith, more, also, before, same)
  where
    both : (a b : Bool) → b ≡ true → (a && b) ≡ a
    both true b e = e
    both false b e = refl

none_counted : (c : ℕ → Bool) (n : ℕ) → ((k : ℕ) → k < n → c k ≡ true → ⊥) → count_by c (range_with_len 0 n) ≡ 0
none_counted c zero none = refl
none_counted c (suc n) none =
    let more = ap (count_by c) (range_more 0 n n (omega arith)) ∙ sum_by_push (λ k. cond {A = ℕ} (c k) 1 0) (range_with_len 0 n) n in
    let before = none_counted c n (λ k lt. none k (omega (arith, lt))) in
    elim (cases_Bool (c n)) [
      | inl said ↦ absurd (none n (omega arith) said)
      | inr denied ↦ let last : cond {A = ℕ} (c n) 1 0 ≡ 0 = ap (λ (b : Bool). cond {A = ℕ} b 1 0) denied in omega (arith, more, before, last)
    ]

-- ---- the longest log

record IsBest (m : ℕ) (is_correct : ℕ → Bool) (log : ℕ → List Row) : Type 0 where
  replica : ℕ
  within : replica < m
  correct : is_correct replica ≡ true
  all : (k : ℕ) → k < m → is_correct k ≡ true → IsPart (log k) (log replica)

best_of : (is_correct : ℕ → Bool) (log : ℕ → List Row) → ((i j : ℕ) → is_correct i ≡ true → is_correct j ≡ true → IsPart (log i) (log j) ⊎ IsPart (log j) (log i)) → (m : ℕ)
    → ((k : ℕ) → k < m → is_correct k ≡ true → ⊥) ⊎ IsBest m is_correct log
best_of is_correct log alike zero = inl (λ k lt is. absurd (omega (arith, lt)))
best_of is_correct log alike (suc m) = go (best_of is_correct log alike m)
  where
    last : is_correct m ≡ true → ((k : ℕ) → k < m → is_correct k ≡ true → IsPart (log k) (log m)) → IsBest (suc m) is_correct log
    last said before = record {
      replica = m;
      within = omega arith;
      correct = said;
      all = λ k lt is. elim (cases_eq k m) [ inl same ↦ subst (λ (j : ℕ). IsPart (log j) (log m)) (sym same) (part_all (log m)) | inr other ↦ before k (omega (arith, lt, other)) is ];
    }

    stays : (b : IsBest m is_correct log) → (is_correct m ≡ true → IsPart (log m) (log b.replica)) → IsBest (suc m) is_correct log
    stays b mine = record {
      replica = b.replica;
      within = omega (arith, b.within);
      correct = b.correct;
      all = λ k lt is. elim (cases_eq k m) [
        | inl same ↦ subst (λ (j : ℕ). IsPart (log j) (log b.replica)) (sym same) (mine (ap is_correct (sym same) ∙ is))
        | inr other ↦ b.all k (omega (arith, lt, other)) is
      ];
    }

    with_last : is_correct m ≡ true → (b : IsBest m is_correct log) → IsPart (log b.replica) (log m) ⊎ IsPart (log m) (log b.replica) → IsBest (suc m) is_correct log
    with_last said b (inl longer) = last said (λ k lt is. part_trans (log k) (log b.replica) (log m) (b.all k lt is) longer)
    with_last said b (inr shorter) = stays b (λ is. shorter)

    go : ((k : ℕ) → k < m → is_correct k ≡ true → ⊥) ⊎ IsBest m is_correct log → ((k : ℕ) → k < suc m → is_correct k ≡ true → ⊥) ⊎ IsBest (suc m) is_correct log
    go (inl none) = elim (cases_Bool (is_correct m)) [
      | inl said ↦ inr (last said (λ k lt is. absurd (none k lt is)))
      | inr denied ↦ inl (λ k lt is. elim (cases_eq k m) [
        | inl same ↦ both_ways (is_correct k) (ap is_correct same ∙ denied) is
        | inr other ↦ none k (omega (arith, lt, other)) is
      ])
    ]
    go (inr b) = inr (elim (cases_Bool (is_correct m)) [
      | inl said ↦ with_last said b (alike b.replica m b.correct said)
      | inr denied ↦ stays b (λ is. absurd (both_ways (is_correct m) denied is))
    ])

pub longest_there : LongestLaw
longest_there p is_correct log some logs =
    elim (best_of is_correct log logs.alike p.n) [
      | inl none ↦ absurd (let count = none_counted is_correct p.n none in let enough = logs.enough in omega (arith, count, enough, some))
      | inr b ↦ (log b.replica, record { replica = b.replica; within = b.within; correct = b.correct; whole = refl; all = b.all })
    ]

-- ---- one row

pub row_is_true : RowLaw
row_is_true p is_correct gave log longest at r enough within many given =
    let d : ℕ → Bool = λ k. gave k && nat_lt k p.n in
    let all = length-range_with_len 0 p.n in
    let same = count_below gave p.n p.n (omega arith) in
    let both = meet_two d is_correct (replicas p.n) (omega (arith, many, enough, all, same)) in
    let parts = and_parts (gave both.member) (nat_lt both.member p.n) both.first in
    let small = ltb-true both.member p.n parts.1 in
    part_row (log both.member) longest at r (within both.member small both.second) (given both.member small parts.0 both.second)

-- ---- what is kept of correct replicas

is_row_is : (r : Row) (o : Option Row) → is_row r o ≡ true → o ≡ Some r
is_row_is r None e = absurd (both_ways false refl e)
is_row_is r (Some q) e =
    let a = and_parts (q.id.origin == r.id.origin) _ e in
    let b = and_parts (q.id.num == r.id.num) _ a.1 in
    let d = and_parts (q.client == r.client) _ b.1 in
    let f = and_parts (q.request == r.request) _ d.1 in
    let make : ℕ → ℕ → ℕ → ℕ → List ℕ → Option Row = λ u v w x y. Some (record { id = record { origin = u; num = v }; client = w; request = x; payload = y }) in
    ap₂ (λ u v. make u v q.client q.request q.payload) (eqb-true q.id.origin r.id.origin a.0) (eqb-true q.id.num r.id.num b.0)
    ∙ (ap₂ (λ w x. make r.id.origin r.id.num w x q.payload) (eqb-true q.client r.client d.0) (eqb-true q.request r.request f.0)
    ∙ ap (λ y. make r.id.origin r.id.num r.client r.request y) ((bytes_eq-Decides q.payload r.payload).0 f.1))

-- what is kept of a correct replica is its row there
abbrev IsTrueOf : (ℕ → Bool) → (ℕ → List Row) → (ℕ → ℕ → Option Row) → Type 0
IsTrueOf is_correct log kept = (k at : ℕ) (r : Row) → is_correct k ≡ true → kept k at ≡ Some r → row_at (log k) at ≡ Some r

given_row : (log : List Row) (p : Piece) (at : ℕ) (r : Row) → IsPieceOf log p → row_from p.position p.rows at ≡ Some r → row_at log at ≡ Some r
given_row log p at r of_log is = go (nat_le p.position at) refl is
  where
    go : (b : Bool) → nat_le p.position at ≡ b → (if b then slice_get p.rows (at - p.position) else None) ≡ Some r → row_at log at ≡ Some r
    go true above there =
        let least = leb-true p.position at above in
        let sum : p.position + (at - p.position) ≡ at = omega (arith, least) in
        part_row of_log.moment log at r of_log.earlier (ap (row_at of_log.moment) (sym sum) ∙ of_log.rows (at - p.position) r there)
    go false above there = absurd (cc)

keeping_true : (is_correct : ℕ → Bool) (log : ℕ → List Row) (g : Gift) (len : ℕ) (kept : ℕ → ℕ → Option Row) → (is_correct g.from ≡ true → IsPieceOf (log g.from) g.piece)
    → IsTrueOf is_correct log kept → IsTrueOf is_correct log (keeping g len kept)
keeping_true is_correct log g len kept of_log before = λ k at r correct is.
    elim (option_or_some (kept k at) (if g.from == k && is_near len at then row_from g.piece.position g.piece.rows at else None) r is) [
      | inl older ↦ before k at r correct older
      | inr now ↦
          let parts = given (g.from == k && is_near len at) (row_from g.piece.position g.piece.rows at) r now.1 in
          let mine = eqb-true g.from k (and_parts (g.from == k) (is_near len at) parts.0).0 in
          subst (λ (j : ℕ). row_at (log j) at ≡ Some r) mine (given_row (log g.from) g.piece at r (of_log (ap is_correct mine ∙ correct)) parts.1)
    ]
  where
    given : (b : Bool) (o : Option Row) (r : Row) → (if b then o else None) ≡ Some r → (b ≡ true) × (o ≡ Some r)
    given true o r e = (refl, e)
    given false o r e = absurd (cc)

-- what f + 1 replicas gave at a position
backed_true : (p : Numbers) (is_correct : ℕ → Bool) (log : ℕ → List Row) (longest : List Row) (kept : ℕ → ℕ → Option Row) (at : ℕ) (r : Row)
    → p.n - p.f ≤ count_by is_correct (replicas p.n) → AreWithin p is_correct log longest → IsTrueOf is_correct log kept → backed p.f (gifts_at p.n kept at) ≡ Some r
    → row_at longest at ≡ Some r
backed_true p is_correct log longest kept at r enough within are e =
    let many = (backed_is p.f (gifts_at p.n kept at) r e).many in
    let count = count_by-map (is_row r) (λ k. kept k at) (replicas p.n) in
    row_is_true p is_correct (λ k. is_row r (kept k at)) log longest at r enough within (omega (arith, many, count))
    (λ k small gave correct. are k at r correct (is_row_is r (kept k at) gave))

-- ---- the row at the next position

steps_true : (is_correct : ℕ → Bool) (log : ℕ → List Row) (first : ℕ) (h : List GivenStep) → AreOfLogs is_correct log (gifts_given h) → IsTrueOf is_correct log (rows_given first h).kept
steps_true is_correct log first [] of_logs = λ k at r correct is. absurd (cc)
steps_true is_correct log first (Gave g ∷ h) of_logs =
    keeping_true is_correct log g (rows_given first h).len (rows_given first h).kept of_logs.0 (steps_true is_correct log first h of_logs.1)
steps_true is_correct log first (Passed ∷ h) of_logs = steps_true is_correct log first h of_logs

pub given_row_is_true : GivenRowLaw
given_row_is_true p is_correct log longest first h r enough within of_logs e =
    backed_true p is_correct log longest (rows_given first h).kept (rows_given first h).len r enough within (steps_true is_correct log first h of_logs) e

-- ---- the observer's log

entered_part : (p : Numbers) (is_correct : ℕ → Bool) (log : ℕ → List Row) (longest : List Row) (kept : ℕ → ℕ → Option Row) → p.n - p.f ≤ count_by is_correct (replicas p.n)
    → AreWithin p is_correct log longest → IsTrueOf is_correct log kept → (times : ℕ) (rows : List Row) → IsPart rows longest → IsPart (entered_given p kept times rows) longest
unfolding entered_given
entered_part p is_correct log longest kept enough within are zero rows part = part
entered_part p is_correct log longest kept enough within are (suc times) rows part =
    go (λ r more. entered_part p is_correct log longest kept enough within are times (r ∷ rows) more) (backed p.f (gifts_at p.n kept (length rows))) refl
  where
    go : ((r : Row) → IsPart (r ∷ rows) longest → IsPart (entered_given p kept times (r ∷ rows)) longest) → (o : Option Row) → backed p.f (gifts_at p.n kept (length rows)) ≡ o
        → IsPart (entered_given_so (entered_given p kept times) rows o) longest
    go next None e = part
    go next (Some r) e = next r (next_part rows longest r part (backed_true p is_correct log longest kept (length rows) r enough within are e))

kept_true : (p : Numbers) (is_correct : ℕ → Bool) (log : ℕ → List Row) (h : List Gift) → AreOfLogs is_correct log h → IsTrueOf is_correct log (observed p h).kept
kept_true p is_correct log [] of_logs = λ k at r correct is. absurd (cc)
kept_true p is_correct log (g ∷ h) of_logs =
    keeping_true is_correct log g (length (observed p h).rows) (observed p h).kept of_logs.0 (kept_true p is_correct log h of_logs.1)

pub log_is_true : LogLaw
log_is_true p is_correct log longest [] enough within of_logs = (longest, append-nil longest)
log_is_true p is_correct log longest (g ∷ h) enough within of_logs =
    entered_part p is_correct log longest (observed p (g ∷ h)).kept enough within (kept_true p is_correct log (g ∷ h) of_logs) window (observed p h).rows
    (log_is_true p is_correct log longest h enough within of_logs.1)

-- ---- what a log gives

slice_behind : (n : ℕ) (xs : List Row) (i j : ℕ) → n + i ≡ j → slice_get (drop n xs) i ≡ slice_get xs j
slice_behind zero xs i j e = let same : i ≡ j = omega (arith, e) in ap (slice_get xs) same
slice_behind (suc n) [] i j e = refl
slice_behind (suc n) (x ∷ xs) i zero e = absurd (omega (arith, e))
slice_behind (suc n) (x ∷ xs) i (suc j) e = slice_behind n xs i j (omega (arith, e))

within_row : (most room : ℕ) (xs : List Row) (i : ℕ) (r : Row) → slice_get (rows_within most room xs) i ≡ Some r → slice_get xs i ≡ Some r
within_row zero room xs i r e = absurd (cc)
within_row (suc most) room [] i r e = absurd (cc)
within_row (suc most) room (x ∷ xs) i r e = go (nat_le (row_size x) room) i (λ j is. within_row most (room - row_size x) xs j r is) e
  where
    go : (b : Bool) (i : ℕ) → ((j : ℕ) → slice_get (rows_within most (room - row_size x) xs) j ≡ Some r → slice_get xs j ≡ Some r)
        → slice_get (if b then x ∷ rows_within most (room - row_size x) xs else []) i ≡ Some r → slice_get (x ∷ xs) i ≡ Some r
    go true zero rest e = e
    go true (suc i) rest e = rest i e
    go false i rest e = absurd (cc)

pub piece_is_of_log : PieceIsOfLog
piece_is_of_log log position = λ i r is.
    sym (slice_behind position (reverse log) i (position + i) refl) ∙ within_row most_rows (longest_log_piece - piece_front) (drop position (reverse log)) i r is
