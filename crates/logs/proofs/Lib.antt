pub mod Starts
pub mod Exact
pub mod Call
pub mod Meaning
pub mod Example
pub mod Raised
