pub mod Seen
pub mod Kept
pub mod Posts
pub mod Closed
pub mod OneAnswer
pub mod Shared
pub mod Bigger
