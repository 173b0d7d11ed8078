-- Modules that belong to no one function.
pub mod Table
pub mod Leads
pub mod Bytes
pub mod Eights
pub mod Versions
