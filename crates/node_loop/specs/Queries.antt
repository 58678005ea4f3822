-- The queries that are served fit a piece, and so do the logs that they find. Lists of rounds, of
-- groups and of events have the newest first.
use Rattle.std.specs.Prelude.{◌≡◌, ℕ, ◌<◌, true, List, [], ◌∷◌}
use Rattle.std.specs.Option.{IfSome}
use Rattle.ritas_base.specs.declared.event.Event.{Event}
use Rattle.outside.specs.declared.link.LinkItem.{LinkItem}
use Rattle.outside.specs.declared.link.LinkItem.TheVariants as items
use Rattle.client_port.specs.Messages.{query_in}
use Rattle.command_log.specs.Index.{HaveFourBytes}
use Rattle.world_model.specs.World.{Setting}
use Rattle.world_model.specs.Agree.{rows_at}
use Rattle.node_loop.specs.Serving.{Serving, so_far, Round, Began, Turned, Closed, Reminded, Took, after_from}
use Rattle.node_loop.specs.Told.{after_groups}

-- where a message to a replica that is here is a query, its position has four bytes, and so have
-- the numbers of clients and of requests in that replica's log
abbrev pub FitsPiece : Setting → List Event → ℕ → List ℕ → Type 0
FitsPiece w es at bytes = w.is_correct at ≡ true
    → IfSome (query_in bytes)
    (λ position. (position < 4294967296) × HaveFourBytes (rows_at w es at))

-- so it is of an item that the link gave
abbrev pub ItemFits : Setting → List Event → LinkItem → Type 0
ItemFits w es (items.Client at conn bytes) = FitsPiece w es at bytes
ItemFits w es item = Unit {0}

abbrev pub RoundFits : Setting → List Event → Round → Type 0
RoundFits w es (Began item) = Unit {0}
RoundFits w es (Turned i) = Unit {0}
RoundFits w es (Closed i epoch) = Unit {0}
RoundFits w es (Reminded i j) = Unit {0}
RoundFits w es (Took item) = ItemFits w es item

-- each query of these rounds does, with the log as it stands then
abbrev pub RoundsFit : Setting → List Event → Serving → List Round → Type 0
RoundsFit w past start [] = Unit {0}
RoundsFit w past start (x ∷ xs) =
    RoundFits w (so_far past (after_from w past start xs)) x × RoundsFit w past start xs

-- and each of these groups
abbrev pub QueriesFit : Setting → List Event → Serving → List (List Round) → Type 0
QueriesFit w past start [] = Unit {0}
QueriesFit w past start (group ∷ older) =
    RoundsFit w past (after_groups w past start older) group × QueriesFit w past start older
