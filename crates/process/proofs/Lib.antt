pub mod Bits
pub mod Giving
pub mod Members
