pub mod Frames
pub mod Given
