pub mod Dimacs
pub mod Texts
pub mod Lines
