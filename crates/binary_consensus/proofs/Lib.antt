mod RowCounts
mod Lines
mod Turning
mod Hearing
mod Moves
mod Boxes
mod RootCalls
