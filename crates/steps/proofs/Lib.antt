pub mod Steps
pub mod CleanLaws
pub mod SettleLaws
pub mod Again
