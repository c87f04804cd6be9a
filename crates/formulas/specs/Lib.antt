pub mod Kinds
pub mod Drives
pub mod Formulas
pub mod Claims
