pub mod Messages
pub mod Votes
pub mod Laws
pub mod Rows
