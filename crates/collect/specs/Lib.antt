pub mod Gather
pub mod Lent
pub mod Counted
pub mod Freed
pub mod Answers
pub mod Posts
