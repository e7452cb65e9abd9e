mod Checked
mod Sameness
pub mod Truths
pub mod Typed
