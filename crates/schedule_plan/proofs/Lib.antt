pub mod Driving
pub mod Limits
pub mod Planned
pub mod Showing
pub mod Whole
pub mod Copies
