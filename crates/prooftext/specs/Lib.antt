pub mod Rows
pub mod Lists
pub mod Parts
pub mod Items
pub mod Readings
pub mod Lent
