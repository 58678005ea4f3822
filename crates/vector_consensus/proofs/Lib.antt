pub mod KeptLaws
pub mod Turns
pub mod Reaching
pub mod Beginning
pub mod Proposed
pub mod Calls
pub mod Boxes
