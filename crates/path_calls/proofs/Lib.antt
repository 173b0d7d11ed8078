-- Modules that belong to no one function.
pub mod Opened
pub mod Searching
pub mod Checks
pub mod OnePath
pub mod Rests
