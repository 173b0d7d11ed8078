pub mod Steps
pub mod Write
pub mod Asks
