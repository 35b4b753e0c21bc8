pub mod Faults
pub mod Output
pub mod Pieces
pub mod Words
