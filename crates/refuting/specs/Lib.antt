pub mod Judging
pub mod States
pub mod Claims
