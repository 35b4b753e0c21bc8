pub mod Sets
pub mod SetLaws
pub mod Meaning
pub mod Runs
pub mod Moves
