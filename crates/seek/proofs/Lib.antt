pub mod Walk
pub mod Search
pub mod ApartLaws
