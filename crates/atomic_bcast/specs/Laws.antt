-- What the laws that the services carry in their `ghost` items are proved by. Such an item may cite `specs/` and not `proofs/`, so these lemmas
-- stand here; no contract reads them.
pub mod Commands
pub mod VectorRounds
pub mod VectorShows
