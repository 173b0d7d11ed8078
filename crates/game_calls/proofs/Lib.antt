-- Modules that belong to no one function.
pub mod Leaves
pub mod Checks
pub mod Meaning
pub mod Rests
