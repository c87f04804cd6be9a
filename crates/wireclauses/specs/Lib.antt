pub mod Literals
pub mod Sides
pub mod Sizes
