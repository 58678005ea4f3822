pub mod Lists
pub mod Closures
pub mod Moves
pub mod Keys
pub mod Groups
pub mod Spots
pub mod Firsts
pub mod Tests
