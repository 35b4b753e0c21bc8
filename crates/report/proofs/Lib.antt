pub mod Findings
pub mod Texts
pub mod Saying
