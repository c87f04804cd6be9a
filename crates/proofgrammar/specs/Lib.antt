pub mod Grammar
pub mod Parts
pub mod Kinds
pub mod Claims
