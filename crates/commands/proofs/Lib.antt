pub mod Obeyed
pub mod After
pub mod OneOutcome
