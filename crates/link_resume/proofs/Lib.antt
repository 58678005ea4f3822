pub mod Batches
pub mod Places
pub mod Room
pub mod Within
