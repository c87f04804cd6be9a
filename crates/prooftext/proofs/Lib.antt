pub mod Filling
pub mod Listing
pub mod Bodies
pub mod Outcomes
