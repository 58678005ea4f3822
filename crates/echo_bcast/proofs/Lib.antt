mod ColumnSteps
mod EntrySteps
mod News
mod Steps
mod Calls
mod Reading
mod ListMembers
