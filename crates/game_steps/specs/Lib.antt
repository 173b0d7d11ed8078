pub mod Iterate
pub mod Whole
pub mod Posts
