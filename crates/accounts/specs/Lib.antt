pub mod Account
pub mod Count
pub mod Listed
pub mod Terms
