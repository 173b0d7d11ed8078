pub mod Visits
pub mod Counted
pub mod Entered
pub mod Arrange
pub mod Parts
pub mod Asked
