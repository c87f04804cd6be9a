pub mod GateFiles
pub mod Reading
