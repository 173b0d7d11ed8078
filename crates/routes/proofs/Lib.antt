pub mod Write
pub mod Find
