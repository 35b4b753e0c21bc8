pub mod Lane
pub mod Table
