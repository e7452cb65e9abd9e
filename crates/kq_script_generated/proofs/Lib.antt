pub mod Cutting
mod Examples
pub mod Lengths
pub mod Putting
pub mod Reading
