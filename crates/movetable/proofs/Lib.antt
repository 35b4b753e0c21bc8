pub mod Laying
pub mod Copying
