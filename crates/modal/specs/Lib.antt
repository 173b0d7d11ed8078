pub mod Chain
pub mod Modal
pub mod Posts
