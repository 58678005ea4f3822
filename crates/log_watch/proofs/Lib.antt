pub mod Replies
pub mod Going
