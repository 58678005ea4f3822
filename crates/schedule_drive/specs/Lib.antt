pub mod Drive
pub mod Lanes
pub mod Pickers
pub mod Choices
pub mod Runs
