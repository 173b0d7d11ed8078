pub mod Work
pub mod Open
pub mod Carried
pub mod Odd
pub mod Pairs
pub mod Posts
