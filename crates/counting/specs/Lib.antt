pub mod News
pub mod Sizes
pub mod Counts
pub mod Taken
pub mod Bound
pub mod Peak
pub mod Posts
