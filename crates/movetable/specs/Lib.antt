pub mod Lists
pub mod Laid
pub mod Once
pub mod Table
