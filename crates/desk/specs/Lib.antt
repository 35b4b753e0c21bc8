pub mod Found
pub mod Plans
pub mod Shown
