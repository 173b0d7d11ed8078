pub mod Obey
pub mod After
pub mod OneOutcome
