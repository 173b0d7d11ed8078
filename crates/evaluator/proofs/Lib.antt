-- Modules that belong to no one function.
pub mod Falls
pub mod State
pub mod Tokens
pub mod Parts
pub mod Outcomes
pub mod Steps
pub mod Leaves
pub mod Relations
pub mod Rounds
pub mod Untils
pub mod Cycle
pub mod Inside
pub mod Starts
pub mod Scene
