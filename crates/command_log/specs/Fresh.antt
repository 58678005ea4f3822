-- What a chain gets of the log of a session by itself: the rows that are fresh, up to the first of them that closes. Lists have the
-- newest first.
use Rattle.std.specs.Prelude.{◌++◌, if◌then◌else◌, List, [], ◌∷◌}
use Rattle.command_log.specs.Rows.{Row, has_row, is_closed}

-- one more row, where its client and request have none yet, in the chain or among those that it got
abbrev pub with_fresh : List Row → List Row → Row → List Row
with_fresh chain new r = if has_row (new ++ chain) r.client r.request then new else r ∷ new

-- of these rows those that the chain has none for
abbrev pub fresh : List Row → List Row → List Row
fresh chain [] = []
fresh chain (r ∷ rs) = with_fresh chain (fresh chain rs) r

-- these rows up to the first that closes: those behind it are void
abbrev pub closed_part : List Row → List Row
closed_part [] = []
closed_part (r ∷ rs) = if is_closed rs then closed_part rs else r ∷ rs
