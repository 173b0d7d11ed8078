pub mod Evaluated
pub mod Ends
pub mod Store
pub mod Load
pub mod After
