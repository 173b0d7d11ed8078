pub mod Evaluated
pub mod Replies
pub mod Store
pub mod Load
