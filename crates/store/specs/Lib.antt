pub mod Rows
pub mod Stores
pub mod Words
