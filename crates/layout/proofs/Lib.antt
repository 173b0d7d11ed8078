pub mod View
pub mod Same
pub mod HeaderLaws
pub mod Arrows
pub mod Roots
pub mod Refusals
