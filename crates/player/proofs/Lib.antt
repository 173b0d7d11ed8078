pub mod Passes
pub mod Chained
pub mod Next
pub mod OnePlay
