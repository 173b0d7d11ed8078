pub mod Steps
pub mod Clean
pub mod Settle
pub mod Again
pub mod Posts
