pub mod Left
pub mod Levels
pub mod AddedCounts
pub mod Surveys
pub mod Renews
pub mod Rest
