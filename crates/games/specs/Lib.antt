pub mod Game
pub mod Plays
pub mod Call
pub mod Meaning
