-- What the laws that the two broadcasts carry in `ghost` items are proved by. Such an item may cite `specs/` and not `proofs/`, so these
-- lemmas stand here; no contract reads them.
pub mod Due
pub mod Good
pub mod Steps
pub mod OneValue
pub mod Bracha
pub mod Voted
pub mod DigestDue
pub mod DigestGood
pub mod DigestNews
pub mod ByDigest
pub mod DigestOneValue
pub mod DigestShown
pub mod DigestQuiet
