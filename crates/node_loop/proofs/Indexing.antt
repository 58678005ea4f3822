-- Which requests an index has for a connection, after a change.
use Rattle.std.specs.Prelude.{◌≡◌, ℕ, ◌==◌, ◌&&◌, ◌||◌, Bool, true, false, not, cond, List, [], ◌∷◌, ◌++◌, filter, Option, Some, None, IfSome, IfNone, MatchOption, Result, Ok, Err, OnOk, OnErr, if◌then◌else◌, refl}
use Rattle.std.specs.List.{list_any}
use Rattle.std.specs.BTreeMap.{BTreeMap, get, is_at}
use Rattle.std.specs.declared.vec.Vec.{Vec}
use Rattle.std.specs.BTreeSet.{BTreeSet, Updates, contains}
use Rattle.std.specs.Ordering.{is_eq, nat_cmp}
use Rattle.std.proofs.Common.{sym, ◌∙◌, ap, ap₂, inl, inr, eq-eqb, Global}
use Rattle.std.proofs.lemmas.Bool.{cases_Bool, eqb-true, eqb-false, ne_eqb, and_parts, or_parts, cond-true, cond-false, false≢true}
use Rattle.std.proofs.lemmas.List.Folds.{list_any-append}
use Rattle.std.proofs.lemmas.Map.Views.{any-filter_same}
use Rattle.node_loop.specs.declared.index.Caller.{Caller}
use Rattle.node_loop.specs.declared.index.Index.{Index}
use Rattle.node_loop.specs.declared.waiting.Asked.{Asked}
use Rattle.node_loop.specs.declared.waiting.Waiters.{Waiters}
use Rattle.node_loop.specs.Waiting.{Waiting, is_same_request, is_conn, joined, with_waiter, without_conn, left_off}
use Rattle.node_loop.specs.WaitersStanding.{asked_cmp, caller_cmp, is_same_caller, is_asked_in, is_listed, conns_in, IsWaiting}
use Rattle.node_loop.proofs.Asking.{at_same, nat_eq_is, same_asked, then_eq}

-- ---- at a key of a map

pub at_caller : (a b : Caller) → is_eq (caller_cmp a b) ≡ is_same_caller a b
at_caller a b =
    then_eq (nat_cmp a.at b.at) (nat_cmp a.conn b.conn) ∙ ap₂ (λ x y. x && y) (nat_eq_is a.at b.at) (nat_eq_is a.conn b.conn)

same_caller : (a b : Caller) → is_same_caller a b ≡ true → a ≡ b
same_caller a b e =
    let parts = and_parts (a.at == b.at) (a.conn == b.conn) e in
    ap₂ (λ x y. record { at = x; conn = y }) (eqb-true a.at b.at parts.0) (eqb-true a.conn b.conn parts.1)

-- the list of one connection was changed: at each request to what `change` makes of it
listed_by : (change : Bool → Bool → Bool) (old new : Index) (caller : Caller) (asked : Asked) (set : Option (BTreeSet Asked))
    → ((c : Caller) → get caller_cmp new.by_caller c ≡ cond (is_eq (caller_cmp caller c)) set (get caller_cmp old.by_caller c))
    → ((a : Asked) → is_asked_in set a ≡ change (is_same_request asked a) (is_listed old caller a))
    → ((b : Bool) → change false b ≡ b)
    → (c : Caller) (a : Asked) → is_listed new c a ≡ change (is_same_caller caller c && is_same_request asked a) (is_listed old c a)
listed_by change old new caller asked set made is stays c a =
    ap (λ (s : Option (BTreeSet Asked)). is_asked_in s a) (made c ∙ ap (λ (t : Bool). cond t set (get caller_cmp old.by_caller c)) (at_caller caller c))
    ∙ (elim (is_same_caller caller c) as (λ t. is_same_caller caller c ≡ t
    → is_asked_in (cond t set (get caller_cmp old.by_caller c)) a ≡ change (t && is_same_request asked a) (is_listed old c a)) [
      | true ↦ λ same. is a ∙ ap (λ (d : Caller). change (is_same_request asked a) (is_listed old d a)) (same_caller caller c same)
      | false ↦ λ other. sym (stays (is_listed old c a))
    ]) refl

or_is : (t b : Bool) → cond t true b ≡ (t || b)
or_is true b = refl
or_is false b = refl

and_is : (t b : Bool) → cond t false b ≡ (not t && b)
and_is true b = refl
and_is false b = refl

-- one request more, one less
pub one_listed : (old new : Index) (caller : Caller) (asked : Asked) (set : BTreeSet Asked) (before : Asked → Bool)
    → ((c : Caller) → get caller_cmp new.by_caller c ≡ cond (is_eq (caller_cmp caller c)) (Some set) (get caller_cmp old.by_caller c))
    → ((a : Asked) → contains asked_cmp set a ≡ cond (is_eq (asked_cmp asked a)) true (before a))
    → ((a : Asked) → before a ≡ is_listed old caller a)
    → (c : Caller) (a : Asked) → is_listed new c a ≡ (is_same_caller caller c && is_same_request asked a || is_listed old c a)
one_listed old new caller asked set before made has was =
    listed_by (λ t b. t || b) old new caller asked (Some set) made
    (λ a. has a ∙ ap₂ (λ (t b : Bool). cond t true b) (at_same asked a) (was a) ∙ or_is (is_same_request asked a) (is_listed old caller a))
    (λ b. refl)

pub one_unlisted : (old new : Index) (caller : Caller) (asked : Asked) (set : BTreeSet Asked) (before : Asked → Bool)
    → ((c : Caller) → get caller_cmp new.by_caller c ≡ cond (is_eq (caller_cmp caller c)) (Some set) (get caller_cmp old.by_caller c))
    → ((a : Asked) → contains asked_cmp set a ≡ cond (is_eq (asked_cmp asked a)) false (before a))
    → ((a : Asked) → before a ≡ is_listed old caller a)
    → (c : Caller) (a : Asked) → is_listed new c a ≡ (not (is_same_caller caller c && is_same_request asked a) && is_listed old c a)
one_unlisted old new caller asked set before made has was =
    listed_by (λ t b. not t && b) old new caller asked (Some set) made
    (λ a. has a ∙ ap₂ (λ (t b : Bool). cond t false b) (at_same asked a) (was a) ∙ and_is (is_same_request asked a) (is_listed old caller a))
    (λ b. refl)

pub some_first : (set before : BTreeSet Asked) (r : Option Asked) → IfSome r (λ asked. Updates asked_cmp before set asked false)
    → IfSome r (λ asked. (a : Asked) → contains asked_cmp set a ≡ cond (is_eq (asked_cmp asked a)) false (contains asked_cmp before a))
some_first set before None updates = updates
some_first set before (Some asked) updates = updates.0

pub popped : (old new : Index) (caller : Caller) (set before : BTreeSet Asked) (r : Option Asked)
    → ((c : Caller) → get caller_cmp new.by_caller c ≡ cond (is_eq (caller_cmp caller c)) (Some set) (get caller_cmp old.by_caller c))
    → ((a : Asked) → contains asked_cmp before a ≡ is_listed old caller a)
    → IfNone r (set.keys ≡ before.keys)
    → IfSome r (λ asked. (a : Asked) → contains asked_cmp set a ≡ cond (is_eq (asked_cmp asked a)) false (contains asked_cmp before a))
    → MatchOption r ((c : Caller) (a : Asked) → is_listed new c a ≡ is_listed old c a)
    (λ asked. (c : Caller) (a : Asked) → is_listed new c a ≡ (not (is_same_caller caller c && is_same_request asked a) && is_listed old c a))
popped old new caller set before None made was same without = λ c a.
    listed_by (λ t b. b) old new caller a (Some set) made (λ x. ap (λ (ks : List Asked). list_any (is_at (asked_cmp x)) ks) same ∙ was x) (λ b. refl) c a
popped old new caller set before (Some asked) made was same without = one_unlisted old new caller asked set (contains asked_cmp before) made without was

-- ---- those that wait, without one

eq_flips : (a b : ℕ) → (a == b) ≡ (b == a)
eq_flips a b = elim (cases_Bool (b == a)) [
  | inl same ↦ eq-eqb a b (sym (eqb-true b a same)) ∙ sym same
  | inr other ↦ ne_eqb a b (λ e. eqb-false b a other (sym e)) ∙ sym other
]

or_false : (t : Bool) → (t || false) ≡ t
or_false true = refl
or_false false = refl

pub and_false : (t : Bool) → (t && false) ≡ false
and_false true = refl
and_false false = refl

-- where none is found, all stay
stay : {X : Type 0} (p : X → Bool) (xs : List X) → list_any p xs ≡ false → filter (λ x. not (p x)) xs ≡ xs
stay p [] none = refl
stay p (x ∷ xs) none =
    let parts = or_parts (p x) (list_any p xs) none in
    cond-true (not (p x)) (x ∷ filter (λ y. not (p y)) xs) (filter (λ y. not (p y)) xs) (ap not parts.0) ∙ ap (λ ys. x ∷ ys) (stay p xs parts.1)

pub without_none : (conn : ℕ) (xs : List (Option ℕ)) → list_any (is_conn (Some conn)) xs ≡ false → without_conn conn xs ≡ xs
without_none conn [] none = refl
without_none conn (x ∷ []) none = cond-false (is_conn (Some conn) x) (None ∷ []) (x ∷ []) (or_parts (is_conn (Some conn) x) false none).0
without_none conn (x ∷ y ∷ xs) none = stay (is_conn (Some conn)) (x ∷ y ∷ xs) none

apart : (t : Bool) → (not t && (t || false)) ≡ false
apart true = refl
apart false = refl

same_conn : (c d : ℕ) (x : Option ℕ) → is_conn (Some d) x ≡ true → not (is_conn (Some c) x) ≡ not (c == d)
same_conn c d None e = absurd (false≢true e)
same_conn c d (Some y) e = ap (λ (n : ℕ). not (c == n)) (sym (eqb-true d y e))

-- where it is another's, whether this one is found doesn't change
other_side : (c d y : ℕ) → (c == y) ≡ false → (d == y || false) ≡ (not (c == d) && (d == y || false))
other_side c d y other = elim (cases_Bool (c == d)) [
  | inl same ↦
      let no : (d == y) ≡ false = ap (λ (n : ℕ). n == y) (sym (eqb-true c d same)) ∙ other in
      ap (λ (t : Bool). t || false) no ∙ sym (ap (λ (t : Bool). not t && (d == y || false)) same)
  | inr differs ↦ sym (ap (λ (t : Bool). not t && (d == y || false)) differs)
]

one_without : (c d : ℕ) (x : Option ℕ) → list_any (is_conn (Some d)) (if is_conn (Some c) x then None ∷ [] else x ∷ []) ≡ (not (c == d) && (is_conn (Some d) x || false))
one_without c d None = sym (and_false (not (c == d)))
one_without c d (Some y) = elim (cases_Bool (c == y)) [
  | inl same ↦
      ap (λ (t : Bool). list_any (is_conn (Some d)) (if t then None ∷ [] else Some y ∷ [])) same
      ∙ sym (ap (λ (n : ℕ). not (n == d) && (d == y || false)) (eqb-true c y same)
      ∙ ap (λ (t : Bool). not t && (d == y || false)) (eq_flips y d) ∙ apart (d == y))
  | inr other ↦
      ap (λ (t : Bool). list_any (is_conn (Some d)) (if t then None ∷ [] else Some y ∷ [])) other
      ∙ other_side c d y other
]

pub any_without : (c d : ℕ) (xs : List (Option ℕ)) → list_any (is_conn (Some d)) (without_conn c xs) ≡ (not (c == d) && list_any (is_conn (Some d)) xs)
any_without c d [] = sym (and_false (not (c == d)))
any_without c d (x ∷ []) = one_without c d x
any_without c d (x ∷ y ∷ xs) = any-filter_same (is_conn (Some d)) (λ z. not (is_conn (Some c) z)) (not (c == d)) (same_conn c d) (x ∷ y ∷ xs)

-- once gone, it is gone
pub gone_stays : (conn : ℕ) (xs : List (Option ℕ)) → without_conn conn (without_conn conn xs) ≡ without_conn conn xs
gone_stays conn xs =
    without_none conn (without_conn conn xs) (any_without conn conn xs ∙ ap (λ (t : Bool). not t && list_any (is_conn (Some conn)) xs) (eq-eqb conn conn refl))

-- ---- all that wait

pub alike : (w : Waiters) (ws us : Waiting) → IsWaiting w ws → ((a : Asked) → us a ≡ ws a) → IsWaiting w us
alike w ws us is same = record {
  shows = λ a. is.shows a ∙ sym (same a);
  listed = λ c a. is.listed c a ∙ ap (λ (xs : List (Option ℕ)). c.at == a.at && list_any (is_conn (Some c.conn)) xs) (sym (same a));
}

-- who doesn't stands behind the others
waits_behind : (asked : Asked) (conn : Option ℕ) (ws : Waiting) → list_any (is_conn conn) (ws asked) ≡ false → (a : Asked)
    → with_waiter asked conn ws a ≡ (if is_same_request asked a then ws a ++ conn ∷ [] else ws a)
waits_behind asked conn ws absent a = (elim (is_same_request asked a) as (λ t. is_same_request asked a ≡ t → (if t then joined conn (ws a) else ws a) ≡ (if t then ws a ++ conn ∷ [] else ws a)) [
  | true ↦ λ same. ap (λ (t : Bool). if t then ws a else ws a ++ conn ∷ []) (ap (λ (b : Asked). list_any (is_conn conn) (ws b)) (sym (same_asked asked a same)) ∙ absent)
  | false ↦ λ other. refl
]) refl

-- a connection that is listed for the request of another replica is none
same_at : (asked a : Asked) → is_same_request asked a ≡ true → a.at ≡ asked.at
same_at asked a same = ap (λ (b : Asked). b.at) (sym (same_asked asked a same))

joins_true : (at l e : Bool) → ((at && e) && true || (at && l)) ≡ (at && (l || (e || false)))
joins_true true true true = refl
joins_true true true false = refl
joins_true true false true = refl
joins_true true false false = refl
joins_true false l e = refl

-- of a caller, whose connection is `conn` at the request's replica
caller_at : (asked a : Asked) (c : Caller) (conn : ℕ) → is_same_request asked a ≡ true
    → is_same_caller (record { at = asked.at; conn = conn }) c ≡ (c.at == a.at && c.conn == conn)
caller_at asked a c conn same = ap₂ (λ x y. x && y) (eq_flips asked.at c.at ∙ ap (λ (n : ℕ). c.at == n) (sym (same_at asked a same))) (eq_flips conn c.conn)

-- one more is listed
one_more : (old new : Index) (asked : Asked) (conn : ℕ) (ws : Waiting)
    → ((c : Caller) (a : Asked) → is_listed new c a ≡ (is_same_caller (record { at = asked.at; conn = conn }) c && is_same_request asked a || is_listed old c a))
    → ((c : Caller) (a : Asked) → is_listed old c a ≡ (c.at == a.at && list_any (is_conn (Some c.conn)) (ws a)))
    → (c : Caller) (a : Asked)
    → is_listed new c a ≡ (c.at == a.at && list_any (is_conn (Some c.conn)) (if is_same_request asked a then ws a ++ Some conn ∷ [] else ws a))
one_more old new asked conn ws adds is c a =
    let caller : Caller = record { at = asked.at; conn = conn } in
    let listed : Bool = c.at == a.at && list_any (is_conn (Some c.conn)) (ws a) in
    adds c a ∙ ap (λ (b : Bool). is_same_caller caller c && is_same_request asked a || b) (is c a)
    ∙ (elim (is_same_request asked a) as (λ t. is_same_request asked a ≡ t
    → (is_same_caller caller c && t || listed) ≡ (c.at == a.at && list_any (is_conn (Some c.conn)) (if t then ws a ++ Some conn ∷ [] else ws a))) [
      | true ↦ λ same.
          ap (λ (b : Bool). b && true || listed) (caller_at asked a c conn same)
          ∙ joins_true (c.at == a.at) (list_any (is_conn (Some c.conn)) (ws a)) (c.conn == conn)
          ∙ ap (λ (b : Bool). c.at == a.at && b) (sym (list_any-append (is_conn (Some c.conn)) (ws a) (Some conn ∷ [])))
      | false ↦ λ other. ap (λ (b : Bool). b || listed) (and_false (is_same_caller caller c))
    ]) refl

-- ---- one more waits

pub pushed : (old new : Waiters) (asked : Asked) (conn : ℕ) (ws : Waiting) → IsWaiting old ws → list_any (is_conn (Some conn)) (ws asked) ≡ false
    → ((a : Asked) → conns_in (get asked_cmp new.by_request a)
    ≡ (if is_same_request asked a then conns_in (get asked_cmp old.by_request a) ++ Some conn ∷ [] else conns_in (get asked_cmp old.by_request a)))
    → ((c : Caller) (a : Asked) → is_listed new.index c a ≡ (is_same_caller (record { at = asked.at; conn = conn }) c && is_same_request asked a || is_listed old.index c a))
    → IsWaiting new (with_waiter asked (Some conn) ws)
pushed old new asked conn ws is absent puts adds =
    alike new (λ a. if is_same_request asked a then ws a ++ Some conn ∷ [] else ws a) (with_waiter asked (Some conn) ws)
    (record {
      shows = λ a. puts a ∙ ap (λ (xs : List (Option ℕ)). if is_same_request asked a then xs ++ Some conn ∷ [] else xs) (is.shows a);
      listed = one_more old.index new.index asked conn ws adds is.listed;
    })
    (waits_behind asked (Some conn) ws absent)

pub pushed_so : {A B : Type 0} (r : Result A B) {P Q : Type 0} → (P → Q) → OnOk r P → OnOk r Q
pushed_so (Ok a) gives is = gives is
pushed_so (Err e) gives is = is

-- what holds in any case does at an error
pub at_error : {A B : Type 0} (r : Result A B) {P : Type 0} → P → OnErr r P
at_error (Ok a) is = tt
at_error (Err e) is = is

-- ---- a connection goes

-- of those that waited, some are without a connection already
pub record IsLeaving (at conn : ℕ) (w : Waiters) (ws : Waiting) : Type 0 where
  pub now : Waiting
  pub waits : IsWaiting w now
  pub left : (a : Asked) → left_off at conn now a ≡ left_off at conn ws a

one_gone : Asked → ℕ → Waiting → Waiting
one_gone asked conn ws a = if is_same_request asked a then without_conn conn (ws a) else ws a

left_listed : (r at s d l : Bool) → (r ≡ true → at ≡ true → s ≡ d) → (not (s && r) && (at && l)) ≡ (at && (if r then (not d && l) else l))
left_listed false at s d l h = ap (λ (t : Bool). not t && (at && l)) (and_false s)
left_listed true true s d l h = ap (λ (t : Bool). not (t && true) && l) (h refl refl) ∙ ap (λ (t : Bool). not t && l) (and_true d)
  where
    and_true : (t : Bool) → (t && true) ≡ t
    and_true true = refl
    and_true false = refl
left_listed true false s d l h = and_false (not (s && true))

any_gone : (r : Bool) (conn d : ℕ) (xs : List (Option ℕ))
    → (if r then (not (conn == d) && list_any (is_conn (Some d)) xs) else list_any (is_conn (Some d)) xs) ≡ list_any (is_conn (Some d)) (if r then without_conn conn xs else xs)
any_gone true conn d xs = sym (any_without conn d xs)
any_gone false conn d xs = refl

-- one that is listed is of the connection's replica
listed_at : (w : Waiters) (ws : Waiting) (caller : Caller) (asked : Asked) → IsWaiting w ws → is_listed w.index caller asked ≡ true → caller.at ≡ asked.at
listed_at w ws caller asked is listed =
    eqb-true caller.at asked.at (and_parts (caller.at == asked.at) (list_any (is_conn (Some caller.conn)) (ws asked)) (sym (is.listed caller asked) ∙ listed)).0

one_gone_left : (at conn : ℕ) (asked : Asked) (ws : Waiting) → at ≡ asked.at → (a : Asked) → left_off at conn (one_gone asked conn ws) a ≡ left_off at conn ws a
unfolding one_gone
one_gone_left at conn asked ws here a = (elim (is_same_request asked a) as (λ t. is_same_request asked a ≡ t
    → (if a.at == at then without_conn conn (if t then without_conn conn (ws a) else ws a) else (if t then without_conn conn (ws a) else ws a)) ≡ left_off at conn ws a) [
      | true ↦ λ same.
          let is_here : (a.at == at) ≡ true = eq-eqb a.at at (same_at asked a same ∙ sym here) in
          ap (λ (t : Bool). if t then without_conn conn (without_conn conn (ws a)) else without_conn conn (ws a)) is_here
          ∙ (gone_stays conn (ws a) ∙ sym (ap (λ (t : Bool). if t then without_conn conn (ws a) else ws a) is_here))
      | false ↦ λ other. refl
    ]) refl

pub leaves_one : (old new : Waiters) (at conn : ℕ) (asked : Asked) (ws : Waiting) → IsLeaving at conn old ws
    → is_listed old.index (record { at = at; conn = conn }) asked ≡ true
    → ((a : Asked) → conns_in (get asked_cmp new.by_request a)
    ≡ (if is_same_request asked a then without_conn conn (conns_in (get asked_cmp old.by_request a)) else conns_in (get asked_cmp old.by_request a)))
    → ((c : Caller) (a : Asked) → is_listed new.index c a ≡ (not (is_same_caller (record { at = at; conn = conn }) c && is_same_request asked a) && is_listed old.index c a))
    → IsLeaving at conn new ws
unfolding one_gone
leaves_one old new at conn asked ws leaving listed leaves removes =
    let ws' : Waiting = leaving.now in
    let here : at ≡ asked.at = listed_at old ws' (record { at = at; conn = conn }) asked leaving.waits listed in
    record {
      now = one_gone asked conn ws';
      waits = record {
        shows = λ a. leaves a ∙ ap (λ (xs : List (Option ℕ)). if is_same_request asked a then without_conn conn xs else xs) (leaving.waits.shows a);
        listed = λ c a.
            let any : Bool = list_any (is_conn (Some c.conn)) (ws' a) in
            let caller : Caller = record { at = at; conn = conn } in
            removes c a
            ∙ (ap (λ (b : Bool). not (is_same_caller caller c && is_same_request asked a) && b) (leaving.waits.listed c a)
            ∙ (left_listed (is_same_request asked a) (c.at == a.at) (is_same_caller caller c) (conn == c.conn) any
            (λ same same_at_c.
            ap (λ (t : Bool). t && conn == c.conn) (eq-eqb at c.at (here ∙ (sym (same_at asked a same) ∙ sym (eqb-true c.at a.at same_at_c)))))
            ∙ ap (λ (b : Bool). c.at == a.at && b) (any_gone (is_same_request asked a) conn c.conn (ws' a))));
      };
      left = λ a. one_gone_left at conn asked ws' here a ∙ leaving.left a;
    }

pub all_left : (old new : Waiters) (at conn : ℕ) (ws : Waiting) → IsLeaving at conn old ws
    → ((a : Asked) → is_listed old.index (record { at = at; conn = conn }) a ≡ false)
    → new.by_request ≡ old.by_request
    → ((c : Caller) (a : Asked) → is_listed new.index c a ≡ (not (is_same_caller (record { at = at; conn = conn }) c) && is_listed old.index c a))
    → IsWaiting new (left_off at conn ws)
all_left old new at conn ws leaving none same forgets =
    let caller : Caller = record { at = at; conn = conn } in
    let ws' : Waiting = leaving.now in
    let all : (a : Asked) → left_off at conn ws a ≡ ws' a = λ a. sym (leaving.left a)
    ∙ (elim (a.at == at) as (λ t. (a.at == at) ≡ t → (if t then without_conn conn (ws' a) else ws' a) ≡ ws' a) [
      | true ↦ λ here.
          without_none conn (ws' a)
          (ap (λ (t : Bool). t && list_any (is_conn (Some conn)) (ws' a)) (sym (eq_flips at a.at ∙ here)) ∙ (sym (leaving.waits.listed caller a) ∙ none a))
      | false ↦ λ elsewhere. refl
    ]) refl in
    let mid : IsWaiting new ws' = record {
      shows = λ a. ap (λ (m : BTreeMap Asked (Vec (Option ℕ) Global)). conns_in (get asked_cmp m a)) same ∙ leaving.waits.shows a;
      listed = λ c a. forgets c a ∙ (forgotten c a ∙ leaving.waits.listed c a);
    } in
    alike new ws' (left_off at conn ws) mid all
  where
    forgotten : (c : Caller) (a : Asked) → (not (is_same_caller (record { at = at; conn = conn }) c) && is_listed old.index c a) ≡ is_listed old.index c a
    forgotten c a = (elim (is_same_caller (record { at = at; conn = conn }) c) as (λ t. is_same_caller (record { at = at; conn = conn }) c ≡ t
        → (not t && is_listed old.index c a) ≡ is_listed old.index c a) [
          | true ↦ λ is. sym (ap (λ (d : Caller). is_listed old.index d a) (sym (same_caller (record { at = at; conn = conn }) c is)) ∙ none a)
          | false ↦ λ other. refl
        ]) refl

-- ---- at a request

module _ (old new : BTreeMap Asked (Vec (Option ℕ) Global)) (asked : Asked) where
  -- what stands at a request was changed so, and nothing else
  put_at : (change : List (Option ℕ) → List (Option ℕ)) (conns : Vec (Option ℕ) Global)
      → conns.items ≡ change (conns_in (get asked_cmp old asked))
      → ((b : Asked) → get asked_cmp new b ≡ cond (is_eq (asked_cmp asked b)) (Some conns) (get asked_cmp old b))
      → (b : Asked)
      → conns_in (get asked_cmp new b) ≡ (if is_same_request asked b then change (conns_in (get asked_cmp old b)) else conns_in (get asked_cmp old b))
  put_at change conns is made b =
      ap conns_in (made b ∙ ap (λ (t : Bool). cond t (Some conns) (get asked_cmp old b)) (at_same asked b))
      ∙ (elim (is_same_request asked b) as (λ t. is_same_request asked b ≡ t
      → conns_in (cond t (Some conns) (get asked_cmp old b)) ≡ (if t then change (conns_in (get asked_cmp old b)) else conns_in (get asked_cmp old b))) [
        | true ↦ λ same. is ∙ ap (λ (a : Asked). change (conns_in (get asked_cmp old a))) (same_asked asked b same)
        | false ↦ λ other. refl
      ]) refl

  pub first_put : (conn : Option ℕ) (conns : Vec (Option ℕ) Global) → None ≡ get asked_cmp old asked → conns.items ≡ conn ∷ []
      → ((b : Asked) → get asked_cmp new b ≡ cond (is_eq (asked_cmp asked b)) (Some conns) (get asked_cmp old b))
      → (b : Asked)
      → conns_in (get asked_cmp new b) ≡ (if is_same_request asked b then conns_in (get asked_cmp old b) ++ conn ∷ [] else conns_in (get asked_cmp old b))
  first_put conn conns none is = put_at (λ (xs : List (Option ℕ)). xs ++ conn ∷ []) conns (is ∙ ap (λ (o : Option (Vec (Option ℕ) Global)). conns_in o ++ conn ∷ []) none)

pub changed_at : (change : List (Option ℕ) → List (Option ℕ)) (old new : BTreeMap Asked (Vec (Option ℕ) Global)) (asked : Asked) (before conns : Vec (Option ℕ) Global)
    → Some before ≡ get asked_cmp old asked → conns.items ≡ change before.items
    → ((b : Asked) → get asked_cmp new b ≡ cond (is_eq (asked_cmp asked b)) (Some conns) (get asked_cmp old b))
    → (b : Asked)
    → conns_in (get asked_cmp new b) ≡ (if is_same_request asked b then change (conns_in (get asked_cmp old b)) else conns_in (get asked_cmp old b))
changed_at change old new asked before conns was is =
    put_at old new asked change conns (is ∙ ap (λ (o : Option (Vec (Option ℕ) Global)). change (conns_in o)) was)
