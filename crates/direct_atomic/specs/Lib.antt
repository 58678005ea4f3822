pub mod Lists
pub mod Stands
pub mod Rows
pub mod Laws
