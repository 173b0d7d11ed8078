pub mod Stands
pub mod Replies
pub mod Whole
