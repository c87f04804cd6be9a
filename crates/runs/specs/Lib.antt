pub mod Rows
pub mod Inputs
pub mod Faults
pub mod Tables
pub mod Traces
pub mod Text
