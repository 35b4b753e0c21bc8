mod Rows
mod Grown
mod Trails
mod Writing
mod Works
pub mod Limits
pub mod Ways
pub mod Keeping
pub mod Telling
pub mod Ending
pub mod Holding
