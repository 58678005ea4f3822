pub mod Submitting
pub mod Waiting
pub mod Laws
pub mod Rows
