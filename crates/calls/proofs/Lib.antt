pub mod FreshLaws
pub mod Changes
pub mod Questions
pub mod Caught
