pub mod Faults
pub mod Rows
pub mod Tables
pub mod Vetted
pub mod Table
