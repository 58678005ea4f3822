pub mod Journal
pub mod EventRecords
pub mod Head
pub mod Appending
pub mod Reading
pub mod Rows
