-- Worlds that follow each other as epochs, and the promise of their chains. Lists have the newest first.
use Rattle.std.specs.Prelude.{◌≡◌, ℕ, ◌<◌, true, List, ◌∷◌, length}
use Rattle.ritas_base.specs.declared.event.Event.{Event}
use Rattle.layer_api.specs.Service.{IsPart}
use Rattle.command_log.specs.Rows.{Row, client_of, request_of, closing_client, is_closed, alone, chained_on, has_ended, AreOnce, HasRow}
use Rattle.command_log.specs.Fresh.{fresh}
use Rattle.world_model.specs.World.{Setting}
use Rattle.world_model.specs.Audit.{audit_of}
use Rattle.world_model.specs.OneValueEach.{history_of}
use Rattle.world_model.specs.Agree.{rows_at, own_rows_at, HasInput, IsConfirmed, Agree}
use Rattle.epoch_chain.specs.Chain.{chain_of}
use Rattle.epoch_chain.specs.Epochs.{OneIsPart, Epochs, AreMarked, AreKept, IsView}

-- one world for each epoch, with the events in it: each has keys, coins and correct replicas of its own
pub record Worlds : Type 0 where
  pub setting : ℕ → Setting
  pub events : ℕ → List Event

-- their logs
abbrev pub epochs_of : Worlds → Epochs
epochs_of ws = record { is_correct = λ k i. (ws.setting k).is_correct i; log = λ k i. rows_at (ws.setting k) (ws.events k) i }

-- each of them is a session by itself, whose logs begin with no rows
abbrev pub AreAlone : Worlds → Type 0
AreAlone ws = (k : ℕ) → (ws.setting k).start ≡ alone

-- in each of them correct replicas agree, as they do where its audit holds
abbrev pub AreAgreed : Worlds → Type 0
AreAgreed ws = (k : ℕ) → Agree (ws.setting k) (ws.events k)

-- correct replicas are given no input of the closing client in epoch k but with the request number k
abbrev pub CloseByNumber : Worlds → Type 0
CloseByNumber ws = (k i : ℕ) (command : List ℕ) → (ws.setting k).is_correct i ≡ true → HasInput (history_of (ws.setting k) (ws.events k) i) command
    → client_of command ≡ closing_client → request_of command ≡ k

-- a row was confirmed in the world of an epoch, whose number is below this one
pub record IsConfirmedIn (ws : Worlds) (epochs : ℕ) (r : Row) : Type 0 where
  pub epoch : ℕ
  pub within : epoch < epochs
  pub confirmed : IsConfirmed (ws.setting epoch) (ws.events epoch) r

-- of the chains of any two nodes one is a prefix of the other
abbrev pub WorldChainsAgree : Type 0
WorldChainsAgree = (ws : Worlds) → AreAgreed ws → (a b : List (List Row)) → IsView (epochs_of ws) a → IsView (epochs_of ws) b → OneIsPart (chain_of a) (chain_of b)

-- each client and request stands there once
abbrev pub WorldChainsOnce : Type 0
WorldChainsOnce = (ws : Worlds) (a : List (List Row)) → IsView (epochs_of ws) a → AreOnce (chain_of a)

-- each command there was submitted at a correct replica, in its epoch
abbrev pub WorldChainsConfirmed : Type 0
WorldChainsConfirmed = (ws : Worlds) → AreAlone ws → AreAgreed ws → (a : List (List Row)) (r : Row) → IsView (epochs_of ws) a → HasRow (chain_of a) r → IsConfirmedIn ws (length a) r

-- closing rows are marked by their epoch
abbrev pub WorldsAreMarked : Type 0
WorldsAreMarked = (ws : Worlds) → AreAlone ws → AreAgreed ws → CloseByNumber ws → AreMarked (epochs_of ws)

-- ---- an epoch whose logs begin with the chain of the epochs before

-- the world of an epoch that nodes serve with logs over these rows, of the epochs before: the world of the session by itself, but for
-- where its logs begin
abbrev pub world_over : Setting → List Row → Setting
world_over w base = record w { start = chained_on base }

-- nothing else depends on where logs begin: each replica has the history that it has in the session by itself
abbrev pub ServedIsSame : Type 0
ServedIsSame = (w : Setting) (base : List Row) (es : List Event) (i : ℕ) → history_of (world_over w base) es i ≡ history_of w es i

-- and the audits are equal: where that of the world with such logs holds, that of the session by itself does
abbrev pub ServedAudit : Type 0
ServedAudit = (w : Setting) (base : List Row) (es : List Event) → audit_of (world_over w base) es ≡ audit_of w es

-- the log over the chain of the epochs before is the chain with its epoch, of which the session by itself has the rows
abbrev pub ServedIsChain : Type 0
ServedIsChain = (w : Setting) (es : List Event) (i : ℕ) (earlier : List (List Row)) → w.start ≡ alone
    → rows_at (world_over w (chain_of earlier)) es i ≡ chain_of (rows_at w es i ∷ earlier)

-- and it has ended exactly where a fresh row of the session's own log closes the epoch
abbrev pub ServedEnds : Type 0
ServedEnds = (w : Setting) (es : List Event) (i : ℕ) (earlier : List (List Row)) → w.start ≡ alone
    → let served = world_over w (chain_of earlier) in has_ended served.start (own_rows_at served es i) ≡ is_closed (fresh (chain_of earlier) (rows_at w es i))

-- ---- nodes that serve epochs

-- a node serves an epoch, as a correct replica, after some of its events: it keeps the epochs before, and its log of the session by itself
-- is a part of that at the end
pub record ServesEpoch (ws : Worlds) (earlier : List (List Row)) (es : List Event) (i : ℕ) : Type 0 where
  pub kept : AreKept (epochs_of ws) earlier
  pub correct : (ws.setting (length earlier)).is_correct i ≡ true
  pub part : IsPart (rows_at (ws.setting (length earlier)) es i) (rows_at (ws.setting (length earlier)) (ws.events (length earlier)) i)

-- the world in which it does: its log begins with the chain of the epochs before
abbrev pub served_world : Worlds → List (List Row) → Setting
served_world ws earlier = world_over (ws.setting (length earlier)) (chain_of earlier)

-- then its log has ended
abbrev pub EndsEpoch : Worlds → List (List Row) → List Event → ℕ → Type 0
EndsEpoch ws earlier es i = has_ended (served_world ws earlier).start (own_rows_at (served_world ws earlier) es i) ≡ true

-- the logs of any two nodes, in whatever epochs and after whatever events, are prefixes of one list
abbrev pub ServedAgree : Type 0
ServedAgree = (ws : Worlds) → AreAlone ws → AreAgreed ws → (a b : List (List Row)) (es fs : List Event) (i j : ℕ)
    → ServesEpoch ws a es i → ServesEpoch ws b fs j → OneIsPart (rows_at (served_world ws a) es i) (rows_at (served_world ws b) fs j)

-- a node whose log has ended keeps the epoch with those before, so that it may serve the next one
abbrev pub ServedIsKept : Type 0
ServedIsKept = (ws : Worlds) → AreAlone ws → (earlier : List (List Row)) (es : List Event) (i : ℕ) → ServesEpoch ws earlier es i
    → EndsEpoch ws earlier es i → AreKept (epochs_of ws) (rows_at (ws.setting (length earlier)) es i ∷ earlier)

-- and it has ended, where epochs are closed by their numbers, as soon as the session's own log has a closing row
abbrev pub ServedCloses : Type 0
ServedCloses = (ws : Worlds) → AreAlone ws → AreAgreed ws → CloseByNumber ws → (earlier : List (List Row)) (es : List Event) (i : ℕ)
    → ServesEpoch ws earlier es i → is_closed (rows_at (ws.setting (length earlier)) es i) ≡ true → EndsEpoch ws earlier es i
