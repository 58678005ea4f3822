-- What the laws that the box and its root service carry in `ghost` items are proved by. Such an item may cite `specs/` and not `proofs/`,
-- so these lemmas stand here; no contract reads them.
pub mod Acceptance
pub mod Box
pub mod FirstStep
pub mod Lock
pub mod RootWords
pub mod RootLog
pub mod OneBit
pub mod Stays
pub mod Opening
