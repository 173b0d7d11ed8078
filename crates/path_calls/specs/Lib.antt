pub mod Search
pub mod Post
pub mod OnePath
pub mod Asks
