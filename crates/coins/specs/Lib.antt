pub mod Runs
pub mod Post
pub mod Cost
pub mod OneFare
pub mod Marks
pub mod Added
pub mod Turns
pub mod Found
