pub mod Moves
pub mod Calls
pub mod Turns
pub mod Text
pub mod Pace
pub mod Known
