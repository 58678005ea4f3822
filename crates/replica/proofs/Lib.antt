pub mod Sealing
pub mod Sends
pub mod Counting
pub mod Growing
pub mod FollowSteps
pub mod Feeding
pub mod Passing
pub mod Opened
pub mod Made
pub mod Fresh
mod Sealed
mod Isolated
