pub mod Calls
pub mod Reading
pub mod TallyLaws
mod DigestValues
mod DigestCalls
mod DigestSteps
mod VoteRowsLaws
