pub mod Rows
pub mod Worlds
