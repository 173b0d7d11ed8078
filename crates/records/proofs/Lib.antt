pub mod TextLaws
pub mod Reading
pub mod Links
pub mod Promises
pub mod Cuts
