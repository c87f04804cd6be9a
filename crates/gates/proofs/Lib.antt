pub mod FirstRecord
pub mod Counting
pub mod Names
