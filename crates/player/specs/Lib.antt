pub mod Play
pub mod OnePlay
