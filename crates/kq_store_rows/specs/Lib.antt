pub mod Causes
pub mod Chunks
pub mod Numbered
pub mod Seen
pub mod Widened
