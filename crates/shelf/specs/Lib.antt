pub mod Lines
pub mod Premises
pub mod Pairs
