pub mod Runs
pub mod Call
pub mod Exact
pub mod Meaning
