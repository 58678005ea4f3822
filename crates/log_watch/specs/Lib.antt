pub mod Watching
pub mod Waiting
pub mod Laws
pub mod Rows
