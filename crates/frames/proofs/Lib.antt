pub mod Sweeping
pub mod Found
