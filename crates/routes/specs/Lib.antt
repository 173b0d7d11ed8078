pub mod Write
pub mod Find
pub mod Posts
