pub mod Hints
pub mod Bytes
