pub mod Posts
pub mod Laid
pub mod OneBatch
