pub mod Work
pub mod Open
pub mod Rows
pub mod Carried
pub mod Odd
pub mod Pairs
