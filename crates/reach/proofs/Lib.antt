pub mod Targets
mod Counting
pub mod Reaching
pub mod Rounds
pub mod Offering
pub mod Follows
pub mod Folding
