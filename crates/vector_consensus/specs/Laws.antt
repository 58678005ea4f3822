-- What the laws that the box and its root service carry in `ghost` items are proved by. Such an item may cite `specs/` and not `proofs/`,
-- so these lemmas stand here; no contract reads them.
pub mod Agreement
pub mod Entries
pub mod LastAttempt
pub mod OneVector
pub mod Proposals
pub mod Proposed
pub mod RootLog
pub mod RootWords
pub mod SameInside
pub mod Tries
pub mod Box
pub mod Opening
