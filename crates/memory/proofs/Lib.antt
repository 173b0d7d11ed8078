pub mod Frame
pub mod Memo
pub mod Store
pub mod ForgetLaws
