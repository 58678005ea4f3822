-- Frames by their numbers, and batches of them.
use Rattle.std.specs.Prelude.{◌≡◌, ℕ, suc, max, ◌<◌, ◌≤◌, nat_le, Bool, true, false, not, cond, List, [], ◌∷◌, ◌++◌, filter, length, slice_index_or, Option, Some, None, refl}
use Rattle.std.specs.declared.cmp.Ordering.{Ordering}
use Rattle.std.specs.declared.cmp.Ordering.TheVariants.{Less, Equal, Greater}
use Rattle.std.specs.declared.ops.Bound.TheVariants.{Unbounded}
use Rattle.std.specs.List.{All}
use Rattle.std.specs.Map.{values_of}
use Rattle.std.specs.BTreeMap.Range.{is_from_start, is_past_end, range_contains, entries_between}
use Rattle.std.specs.Ordering.{MatchOrdering, nat_cmp, is_lt}
use Rattle.std.proofs.Common.{sym, ◌∙◌, ap, arith}
use Rattle.std.proofs.lemmas.Bool.{cond-true, cond-false, and_parts, and_from, leb-true, ltb-true, false_from_ne_true, both_ways}
use Rattle.std.proofs.lemmas.Cmp.{ranked}
use Rattle.std.proofs.lemmas.List.{append-nil}
use Rattle.std.proofs.Math.Seq.{append_snoc}
use Rattle.link_resume.specs.declared.kept.Kept.{Kept}
use Rattle.link_resume.specs.Lanes.{StandByNumber, start_behind, end_at}
use Rattle.link_resume.specs.Lists.{is_behind, is_between, between, joins_batch, bytes_with, batch_behind, last_seq, last_number}

-- ---- the newest

last_seq-push : (seq : ℕ) (xs : List Kept) (k : Kept) → last_seq seq (xs ++ k ∷ []) ≡ k.seq
last_seq-push seq [] k = refl
last_seq-push seq (x ∷ xs) k = last_seq-push x.seq xs k

pub last_number-push : (xs : List Kept) (k : Kept) → last_number (xs ++ k ∷ []) ≡ Some k.seq
last_number-push [] k = refl
last_number-push (x ∷ xs) k = ap (λ (n : ℕ). Some n) (last_seq-push x.seq xs k)

-- ---- those that are looked at

below : (a b : ℕ) (r : Ordering) → MatchOrdering r (a < b) (a ≡ b) (b < a) → a < b → is_lt r ≡ true
below a b Less m low = refl
below a b Equal m low = absurd (omega (arith, m, low))
below a b Greater m low = absurd (omega (arith, m, low))

not_below : (a b : ℕ) (r : Ordering) → MatchOrdering r (a < b) (a ≡ b) (b < a) → b ≤ a → is_lt r ≡ false
not_below a b Less m high = absurd (omega (arith, m, high))
not_below a b Equal m high = refl
not_below a b Greater m high = refl

pass_if : (p : Kept → Bool) (x : ℕ × Kept) (xs ys : List (ℕ × Kept)) (b : Bool) → (p x.1 ≡ true → b ≡ true) → filter p (values_of xs) ≡ filter p (values_of ys)
    → filter p (values_of (cond b (x ∷ xs) xs)) ≡ filter p (values_of (x ∷ ys))
pass_if p x xs ys true given same = ap (λ (l : List Kept). cond (p x.1) (x.1 ∷ l) l) same
pass_if p x xs ys false given same =
    same ∙ sym (cond-false (p x.1) (x.1 ∷ filter p (values_of ys)) (filter p (values_of ys)) (false_from_ne_true (p x.1) (λ does. both_ways false refl (given does))))

-- where all that pass one test pass another, those that don't pass the other need no look
others_fail : (p : Kept → Bool) (q : ℕ × Kept → Bool) (es : List (ℕ × Kept)) → All (λ e. p e.1 ≡ true → q e ≡ true) es
    → filter p (values_of (filter q es)) ≡ filter p (values_of es)
others_fail p q [] all = refl
others_fail p q (e ∷ es) all =
    pass_if p e (filter q es) es (q e) (all 0 e (omega arith)) (others_fail p q es (λ i d within. all (suc i) d (omega (arith, within))))

-- between two places
starts_behind : (after : Option ℕ) (e : ℕ × Kept) → e.0 ≡ e.1.seq → is_behind after e.1 ≡ true → is_from_start nat_cmp (start_behind after) e.0 ≡ true
starts_behind None e at behind = refl
starts_behind (Some seq) e at behind =
    below seq e.0 (nat_cmp seq e.0) (ranked seq e.0 (nat_cmp seq e.0) refl) (omega (arith, at, ltb-true seq e.1.seq behind))

ends_at : (after : Option ℕ) (last : ℕ) (e : ℕ × Kept) → e.0 ≡ e.1.seq → e.1.seq ≤ last → is_past_end nat_cmp (end_at after last) e.0 ≡ false
ends_at None last e at high = not_below last e.0 (nat_cmp last e.0) (ranked last e.0 (nat_cmp last e.0) refl) (omega (arith, at, high))
ends_at (Some seq) last e at high =
    let top = max seq last in
    not_below top e.0 (nat_cmp top e.0) (ranked top e.0 (nat_cmp top e.0) refl) (omega (arith, at, high))

in_places : (after : Option ℕ) (last : ℕ) (e : ℕ × Kept) → e.0 ≡ e.1.seq → is_between after last e.1 ≡ true
    → range_contains nat_cmp (start_behind after) (end_at after last) e.0 ≡ true
in_places after last e at passes =
    let parts = and_parts (is_behind after e.1) (nat_le e.1.seq last) passes in
    and_from _ _ (starts_behind after e at parts.0) (ap not (ends_at after last e at (leb-true e.1.seq last parts.1)))

pub by_places : (after : Option ℕ) (last : ℕ) (es : List (ℕ × Kept)) → StandByNumber es
    → between after last (values_of (entries_between nat_cmp (start_behind after) (end_at after last) es)) ≡ between after last (values_of es)
by_places after last es by =
    others_fail (is_between after last) (λ e. range_contains nat_cmp (start_behind after) (end_at after last) e.0) es
    (λ i d within. in_places after last (slice_index_or es i d) (by i d within))

pub by_any : (after : Option ℕ) (last : ℕ) (es : List (ℕ × Kept))
    → between after last (values_of (entries_between nat_cmp Unbounded Unbounded es)) ≡ between after last (values_of es)
by_any after last es = others_fail (is_between after last) (λ e. range_contains nat_cmp Unbounded Unbounded e.0) es (λ i d within passes. refl)

-- ---- the next of a batch

-- a frame with another number isn't of it
pub next_other : (most : ℕ) (given : Option ℕ) (after : Option ℕ) (last : ℕ) (x : ℕ × Kept) (xs all : List (ℕ × Kept)) → all ≡ x ∷ xs → is_between after last x.1 ≡ false
    → batch_behind most given (between after last (values_of xs)) ≡ batch_behind most given (between after last (values_of all))
next_other most given after last x xs all is fails =
    rw is (sym (ap (batch_behind most given) (cond-false (is_between after last x.1) (x.1 ∷ between after last (values_of xs)) (between after last (values_of xs)) fails)))

-- one that doesn't join is the end of it
pub next_full : (most : ℕ) (given after : Option ℕ) (last size : ℕ) (x : ℕ × Kept) (xs all : List (ℕ × Kept)) → all ≡ x ∷ xs → is_between after last x.1 ≡ true
    → size ≡ length x.1.frame → joins_batch most given size ≡ false → batch_behind most given (between after last (values_of all)) ≡ []
next_full most given after last size x xs all is passes long full =
    let rest = between after last (values_of xs) in
    rw is (ap (batch_behind most given) (cond-true (is_between after last x.1) (x.1 ∷ rest) rest passes)
    ∙ cond-false (joins_batch most given (length x.1.frame)) (x.1 ∷ batch_behind most (Some (bytes_with given (length x.1.frame))) rest) []
    (ap (joins_batch most given) (sym long) ∙ full))

-- and one that does is given
pub next_given : (most : ℕ) (given after : Option ℕ) (last size bytes : ℕ) (x : ℕ × Kept) (xs all : List (ℕ × Kept)) → all ≡ x ∷ xs → is_between after last x.1 ≡ true
    → size ≡ length x.1.frame → joins_batch most given size ≡ true → bytes ≡ bytes_with given size
    → batch_behind most given (between after last (values_of all)) ≡ x.1 ∷ batch_behind most (Some bytes) (between after last (values_of xs))
next_given most given after last size bytes x xs all is passes long joins sum =
    let rest = between after last (values_of xs) in
    rw is (ap (batch_behind most given) (cond-true (is_between after last x.1) (x.1 ∷ rest) rest passes)
    ∙ (cond-true (joins_batch most given (length x.1.frame)) (x.1 ∷ batch_behind most (Some (bytes_with given (length x.1.frame))) rest) [] (ap (joins_batch most given) (sym long) ∙ joins)
    ∙ ap (λ (n : ℕ). x.1 ∷ batch_behind most (Some n) rest) (sym (sum ∙ ap (bytes_with given) long))))

-- ---- the last of a batch

-- of a batch these are to come, and this is the number of the last one before them
pub record IsGiven (all rest : List Kept) (number : Option ℕ) : Type 0 where
  pub before : List Kept
  pub are : all ≡ before ++ rest
  pub last : number ≡ last_number before

pub none_given : (all rest : List Kept) → rest ≡ all → IsGiven all rest None
none_given all rest is = record { before = []; are = sym is; last = refl }

pub one_given : (all old new : List Kept) (k : Kept) (number : Option ℕ) → IsGiven all old number → old ≡ k ∷ new → IsGiven all new (Some k.seq)
one_given all old new k number given is = record {
  before = given.before ++ k ∷ [];
  are = given.are ∙ (ap (λ (l : List Kept). given.before ++ l) is ∙ sym (append_snoc given.before k new));
  last = sym (last_number-push given.before k);
}

pub all_given : (all rest : List Kept) (number : Option ℕ) → IsGiven all rest number → rest ≡ [] → number ≡ last_number all
all_given all rest number given none =
    given.last ∙ ap last_number (sym (given.are ∙ (ap (λ (l : List Kept). given.before ++ l) none ∙ append-nil given.before)))
