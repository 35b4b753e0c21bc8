pub mod Distinctness
pub mod Lookups
