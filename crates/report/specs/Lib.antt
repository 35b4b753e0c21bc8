pub mod Refusals
pub mod Sizes
pub mod Lines
pub mod Leaves
pub mod Finding
pub mod Exactly
pub mod Outcomes
pub mod Says
