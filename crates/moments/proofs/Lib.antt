pub mod Cubes
pub mod TwoEntries
pub mod FittingLaws
pub mod BeforeLaws
pub mod Sets
pub mod Write
pub mod Find
