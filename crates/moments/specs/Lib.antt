pub mod Moment
pub mod Fitting
pub mod Before
pub mod Sets
pub mod Write
pub mod Find
pub mod Posts
