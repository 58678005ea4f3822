-- What the laws that the broadcast carries in `ghost` items are proved by. Such an item may cite `specs/` and not `proofs/`, so these
-- lemmas stand here; no contract reads them.
pub mod Columns
pub mod Good
pub mod Once
pub mod Entries
pub mod OneValue
pub mod Getters
pub mod News
pub mod Matrix
pub mod Opening
