pub mod Form
pub mod Records
pub mod Appending
pub mod Reading
pub mod Making
pub mod Rows
