pub mod Readings
pub mod Claims
pub mod Examples
