pub mod Epochs
pub mod Laws
pub mod Reading
pub mod Rows
