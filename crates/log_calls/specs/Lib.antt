pub mod Search
pub mod Post
pub mod Asks
