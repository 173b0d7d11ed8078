pub mod Bits
pub mod ReadsLaws
pub mod MasksLaws
