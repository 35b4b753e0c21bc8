pub mod Tokens
pub mod Reading
pub mod Plans
pub mod Promises
pub mod Brackets
pub mod Stops
