pub mod Across
pub mod Variables
pub mod Blocks
