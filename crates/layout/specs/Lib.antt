pub mod Places
pub mod View
pub mod Header
pub mod Arrows
pub mod Roots
pub mod Refusals
