pub mod AccountLaws
pub mod Listed
pub mod TermsLaws
