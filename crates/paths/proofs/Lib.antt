pub mod First
pub mod Layers
pub mod Written
pub mod Decided
pub mod Exact
pub mod Example
pub mod Meaning
pub mod Raised
