-- What fits a piece, by whether a message is a query; and where a request may want memory.
use Rattle.std.proofs.Common.{◌≡◌, ℕ, ◌<◌, Bool, true, false, List, Option, Some, None, sym, subst}
use Rattle.std.specs.List.{list_any}
use Rattle.std.specs.Option.{IfSome}
use Rattle.std.proofs.lemmas.Bool.{both_ways}
use Rattle.ritas_base.specs.declared.event.Event.{Event}
use Rattle.client_port.specs.Messages.{Request, query_in}
use Rattle.command_log.specs.Index.{HaveFourBytes}
use Rattle.world_model.specs.World.{Setting}
use Rattle.world_model.specs.Agree.{rows_at}
use Rattle.node_loop.specs.Calls.{asked_in, is_waited_for}
use Rattle.node_loop.specs.Queries.{FitsPiece}
use Rattle.node_loop.specs.Waiting.{Waiting, is_conn}
use Rattle.node_loop.specs.Wanting.{AskedMayWant, WaitMayWant, RequestMayWant}

-- a position and a log in a piece
abbrev pub FitsAt : Setting → List Event → ℕ → Option ℕ → Type 0
FitsAt w es at asked = IfSome asked (λ position. (position < 4294967296) × HaveFourBytes (rows_at w es at))

pub query_fits : (w : Setting) (es : List Event) (at : ℕ) (bytes : List ℕ) (position : ℕ) → query_in bytes ≡ Some position → position < 4294967296
    → HaveFourBytes (rows_at w es at) → FitsPiece w es at bytes
query_fits w es at bytes position is small rows = λ correct. subst (FitsAt w es at) (sym is) (small, rows)

pub no_query_fits : (w : Setting) (es : List Event) (at : ℕ) (bytes : List ℕ) → query_in bytes ≡ None → FitsPiece w es at bytes
no_query_fits w es at bytes none = λ correct. subst (FitsAt w es at) (sym none) tt

-- of a query that was asked
pub fits_asked : (w : Setting) (es : List Event) (at : ℕ) (bytes : List ℕ) (position : ℕ) → query_in bytes ≡ Some position → FitsPiece w es at bytes
    → w.is_correct at ≡ true → (position < 4294967296) × HaveFourBytes (rows_at w es at)
fits_asked w es at bytes position is fits correct = subst (FitsAt w es at) is (fits correct)

-- where its request may want memory, a message may
pub may_request : (w : Setting) (es : List Event) (at : ℕ) (conn : Option ℕ) (bytes : List ℕ) (ws : Waiting) (r : Option Request)
    → WaitMayWant w es at conn ws (asked_in at bytes) → RequestMayWant w es at conn bytes ws r
may_request w es at conn bytes ws None may = tt
may_request w es at conn bytes ws (Some r) may = may

-- ---- what a request may want that has no row yet

-- one of the closing client that is refused
pub may_reserved : (conn : Option ℕ) (waits : List (Option ℕ)) (reserved crowded : Bool) (place : Option ℕ) → place ≡ None → reserved ≡ true → (conn ≡ None → ⊥)
    → AskedMayWant conn waits reserved crowded place
may_reserved conn waits reserved crowded (Some position) none is some = some
may_reserved conn waits true crowded None none is some = some
may_reserved conn waits false crowded None none is some = absurd (cc)

-- one that waits
pub may_wait : (conn : Option ℕ) (waits : List (Option ℕ)) (reserved crowded : Bool) (place : Option ℕ) → place ≡ None → reserved ≡ false → is_waited_for waits ≡ true
    → list_any (is_conn conn) waits ≡ false → AskedMayWant conn waits reserved crowded place
may_wait conn waits reserved crowded (Some position) none is waited absent = absurd (cc)
may_wait conn waits true crowded None none is waited absent = absurd (cc)
may_wait conn waits false false None none is waited absent = λ again. absent
may_wait conn waits false true None none is waited absent = (λ again. absent, λ nobody. absurd (both_ways (is_waited_for waits) nobody waited))

-- one that is refused as it has no place
pub may_refuse : (conn : Option ℕ) (waits : List (Option ℕ)) (reserved crowded : Bool) (place : Option ℕ) → place ≡ None → reserved ≡ false → is_waited_for waits ≡ false
    → (conn ≡ None → ⊥) → AskedMayWant conn waits reserved crowded place
may_refuse conn waits reserved crowded (Some position) none is nobody some = some
may_refuse conn waits true crowded None none is nobody some = some
may_refuse conn waits false false None none is nobody some = λ waited. absurd (both_ways (is_waited_for waits) nobody waited)
may_refuse conn waits false true None none is nobody some = (λ waited. absurd (both_ways (is_waited_for waits) nobody waited), λ again. some)

-- and one that is submitted
pub may_submit : (conn : Option ℕ) (waits : List (Option ℕ)) (reserved crowded : Bool) (place : Option ℕ) → place ≡ None → reserved ≡ false → is_waited_for waits ≡ false
    → crowded ≡ false → AskedMayWant conn waits reserved crowded place
may_submit conn waits reserved crowded (Some position) none is nobody roomy = absurd (cc)
may_submit conn waits true crowded None none is nobody roomy = absurd (cc)
may_submit conn waits false false None none is nobody roomy = λ waited. absurd (both_ways (is_waited_for waits) nobody waited)
may_submit conn waits false true None none is nobody roomy = absurd (cc)
