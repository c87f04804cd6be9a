pub mod Checks
pub mod Shelving
pub mod Whole
pub mod Invariant
pub mod Square
