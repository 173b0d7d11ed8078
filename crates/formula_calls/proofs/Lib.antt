pub mod Refused
pub mod Vacant
