pub mod Laid
pub mod MembersLaws
pub mod Facts
pub mod OneBatch
pub mod Again
pub mod Truthful
