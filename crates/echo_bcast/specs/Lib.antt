pub mod Matrix
pub mod Due
pub mod Gathering
pub mod State
pub mod Reading
pub mod OneDue
pub mod Rows
pub mod Laws
