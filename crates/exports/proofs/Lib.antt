pub mod Given
pub mod Check
pub mod PlayingLaws
pub mod Games
pub mod Local
pub mod Row
