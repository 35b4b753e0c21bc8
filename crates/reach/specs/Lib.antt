pub mod Reach
pub mod Offers
pub mod Laws
pub mod Shuttle
