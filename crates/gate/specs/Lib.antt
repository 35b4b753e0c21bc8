pub mod Follow
pub mod Gate
pub mod Refusals
pub mod Theorems
pub mod Faults
pub mod Yard
