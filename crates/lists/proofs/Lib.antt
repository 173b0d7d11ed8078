pub mod Lists
pub mod Howls
pub mod Untils
pub mod Valids
