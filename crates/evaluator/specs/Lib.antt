pub mod Stops
pub mod Scene
pub mod Whole
pub mod Posts
