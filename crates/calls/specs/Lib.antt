pub mod Replies
pub mod Fresh
