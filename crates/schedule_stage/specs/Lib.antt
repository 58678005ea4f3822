pub mod Worlds
pub mod Faces
pub mod Letters
pub mod Tape
pub mod Stepping
pub mod Stage
