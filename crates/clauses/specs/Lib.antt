pub mod Clauses
pub mod Claims
