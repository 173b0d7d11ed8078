pub mod Given
pub mod Check
pub mod Playing
pub mod Games
