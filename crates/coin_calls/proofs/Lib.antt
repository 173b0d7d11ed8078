pub mod Steps
pub mod Write
pub mod Paid
pub mod Found
pub mod Moved
pub mod Checks
pub mod Example
pub mod Rests
