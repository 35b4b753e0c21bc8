pub mod Lawfuls
pub mod Slips
pub mod Ties
pub mod Answering
