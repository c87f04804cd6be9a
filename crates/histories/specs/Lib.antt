pub mod Shown
pub mod Cases
pub mod Law
