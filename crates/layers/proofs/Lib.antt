pub mod Next
pub mod Scene
pub mod Again
pub mod Pass
