pub mod Chain
pub mod Epochs
pub mod Rows
