pub mod WalkLaws
pub mod Halves
pub mod Count
