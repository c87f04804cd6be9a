pub mod Places
pub mod Cuts
pub mod Shifts
pub mod Seeking
pub mod Questions
pub mod Storing
