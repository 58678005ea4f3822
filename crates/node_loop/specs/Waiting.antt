-- Who waits for which request.
use Rattle.std.specs.Prelude.{ℕ, ◌==◌, ◌&&◌, not, Bool, true, false, List, [], ◌∷◌, ◌++◌, filter, Option, Some, None, if◌then◌else◌}
use Rattle.std.specs.List.{list_any}
use Rattle.node_loop.specs.declared.waiting.Asked.{Asked}

-- The connections that wait for a request's row at a replica, in the order in which they asked. One of the items with which serving
-- begins has none, and waits as `None`.
abbrev pub Waiting : Type 0
Waiting = Asked → List (Option ℕ)

abbrev pub nobody : Waiting
nobody a = []

abbrev pub is_same_request : Asked → Asked → Bool
is_same_request a b = a.at == b.at && (a.client == b.client && a.request == b.request)

abbrev pub is_conn : Option ℕ → Option ℕ → Bool
is_conn None None = true
is_conn (Some c) (Some d) = c == d
is_conn _ _ = false

-- a connection waits once, however often it asks
abbrev pub joined : Option ℕ → List (Option ℕ) → List (Option ℕ)
joined conn conns = if list_any (is_conn conn) conns then conns else conns ++ conn ∷ []

-- one more waits for this request, if it doesn't wait already
abbrev pub with_waiter : Asked → Option ℕ → Waiting → Waiting
with_waiter a conn ws b = if is_same_request a b then joined conn (ws b) else ws b

-- those that wait without this connection: where it is the only one, nobody in particular waits on
abbrev pub without_conn : ℕ → List (Option ℕ) → List (Option ℕ)
without_conn conn (c ∷ []) = if is_conn (Some conn) c then None ∷ [] else c ∷ []
without_conn conn conns = filter (λ c. not (is_conn (Some conn) c)) conns

-- a connection of a replica is gone: it isn't replied any more, but what it asked for waits on, and isn't submitted again
abbrev pub left_off : ℕ → ℕ → Waiting → Waiting
left_off at conn ws b = if b.at == at then without_conn conn (ws b) else ws b

-- nobody waits for it any more
abbrev pub without_asked : Asked → Waiting → Waiting
without_asked a ws b = if is_same_request a b then [] else ws b
