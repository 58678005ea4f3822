pub mod Tallies
pub mod Standing
pub mod Positions
pub mod Written
pub mod Pieces
