pub mod Permit
pub mod Examples
