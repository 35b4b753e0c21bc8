pub mod Left
pub mod Line
pub mod Raw
pub mod Reading
pub mod Shown
pub mod Tables
