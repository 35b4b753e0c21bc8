pub mod Naming
pub mod Shown
