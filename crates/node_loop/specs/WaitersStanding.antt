-- What those who wait for requests stand for, and what they are found by.
use Rattle.std.specs.Prelude.{◌≡◌, ℕ, ◌==◌, ◌&&◌, Bool, false, List, [], length, Option, None, Some}
use Rattle.std.specs.List.{list_any}
use Rattle.std.specs.declared.cmp.Ordering.{Ordering}
use Rattle.std.specs.declared.vec.Vec.{Vec}
use Rattle.std.specs.Ordering.{nat_cmp, then_cmp, on}
use Rattle.std.specs.BTreeMap.{get}
use Rattle.std.specs.BTreeSet.{BTreeSet, contains}
use Rattle.node_loop.specs.declared.index.Caller.{Caller}
use Rattle.node_loop.specs.declared.index.Index.{Index}
use Rattle.node_loop.specs.declared.waiting.Asked.{Asked}
use Rattle.node_loop.specs.declared.waiting.Waiters.{Waiters}
use Rattle.node_loop.specs.Waiting.{Waiting, is_conn}

abbrev pub asked_cmp : Asked → Asked → Ordering
asked_cmp = then_cmp (on (λ a. a.at) nat_cmp) (then_cmp (on (λ a. a.client) nat_cmp) (on (λ a. a.request) nat_cmp))

-- ---- the requests of a connection

abbrev pub caller_cmp : Caller → Caller → Ordering
caller_cmp = then_cmp (on (λ c. c.at) nat_cmp) (on (λ c. c.conn) nat_cmp)

abbrev pub is_same_caller : Caller → Caller → Bool
is_same_caller c d = c.at == d.at && c.conn == d.conn

abbrev pub is_asked_in : Option (BTreeSet Asked) → Asked → Bool
is_asked_in None a = false
is_asked_in (Some asked) a = contains asked_cmp asked a

abbrev pub count_in : Option (BTreeSet Asked) → ℕ
count_in None = 0
count_in (Some asked) = length asked.keys

-- whether the index has this request for a connection, and how many it has
abbrev pub is_listed : Index → Caller → Asked → Bool
is_listed index c a = is_asked_in (get caller_cmp index.by_caller c) a

abbrev pub listed_count : Index → Caller → ℕ
listed_count index c = count_in (get caller_cmp index.by_caller c)

-- ---- who waits

abbrev pub conns_in : {Z : Type 0} → Option (Vec (Option ℕ) Z) → List (Option ℕ)
conns_in None = []
conns_in (Some conns) = conns.items

-- these wait for each request, and the index has just the requests at its replica that a connection waits for
pub record IsWaiting (waiters : Waiters) (ws : Waiting) : Type 0 where
  pub shows : (a : Asked) → conns_in (get asked_cmp waiters.by_request a) ≡ ws a
  pub listed : (c : Caller) (a : Asked) → is_listed waiters.index c a ≡ (c.at == a.at && list_any (is_conn (Some c.conn)) (ws a))
