pub mod Counted
pub mod Entered
pub mod Arrange
pub mod Parts
pub mod Asked
pub mod Bench
