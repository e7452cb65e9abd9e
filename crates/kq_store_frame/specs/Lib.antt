pub mod Frames
pub mod Series
