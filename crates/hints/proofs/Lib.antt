pub mod Bytes
pub mod Readings
pub mod Lines
