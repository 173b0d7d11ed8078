pub mod News
pub mod Sizes
pub mod CountsLaws
pub mod BeginLaws
pub mod Bound
pub mod Peak
pub mod After
