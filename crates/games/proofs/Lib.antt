pub mod Rounds
pub mod Plays
pub mod Only
pub mod Formula
pub mod Call
pub mod Meaning
pub mod Example
pub mod Raised
