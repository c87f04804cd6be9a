pub mod Solutions
pub mod Rounds
pub mod Runs
pub mod Claims
