pub mod Uses
pub mod Pairs
pub mod Overs
