pub mod Columns
pub mod Append
pub mod Fresh
pub mod Find
pub mod Add
pub mod Full
pub mod Make
