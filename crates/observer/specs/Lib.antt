pub mod Reading
pub mod Giving
pub mod Watching
pub mod Places
pub mod Standing
pub mod Laws
pub mod Rows
