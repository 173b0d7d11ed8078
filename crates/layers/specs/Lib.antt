pub mod Next
pub mod Scene
pub mod Again
pub mod Pass
pub mod Posts
