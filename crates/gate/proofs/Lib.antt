pub mod Scans
pub mod Keys
pub mod Judging
pub mod Deciding
pub mod Soundness
pub mod Plain
