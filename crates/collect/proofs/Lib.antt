pub mod GatherLaws
pub mod Lent
pub mod Counted
pub mod Freed
pub mod Answers
