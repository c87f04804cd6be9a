pub mod Judged
pub mod Claims
pub mod Examples
