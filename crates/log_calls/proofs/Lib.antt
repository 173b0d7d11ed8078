pub mod Searching
pub mod Checks
pub mod OneLogged
pub mod Rests
