-- What the laws that the box and its root service carry in `ghost` items are proved by. Such an item may cite `specs/` and not `proofs/`,
-- so these lemmas stand here; no contract reads them.
pub mod Agreement
pub mod Inside
pub mod OneDecision
pub mod OneProposal
pub mod Proposed
pub mod RootLog
pub mod RootWords
pub mod Box
pub mod Opening
