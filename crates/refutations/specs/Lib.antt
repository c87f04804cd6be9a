pub mod Refuting
pub mod Words
pub mod Claims
