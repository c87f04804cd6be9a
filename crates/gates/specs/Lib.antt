pub mod Gates
pub mod Records
