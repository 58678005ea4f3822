pub mod OriginSets
pub mod Places
pub mod Kept
pub mod Bases
pub mod Confirming
