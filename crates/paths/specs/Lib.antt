pub mod Runs
pub mod Exact
pub mod Call
pub mod Meaning
