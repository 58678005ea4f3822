pub mod Commands
pub mod CmdRoot
pub mod CmdRootGetters
pub mod Rows
pub mod VectorRounds
pub mod RoundRows
pub mod Laws
