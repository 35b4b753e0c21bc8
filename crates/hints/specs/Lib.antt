pub mod Place
pub mod Allowed
