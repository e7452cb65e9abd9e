mod Chains
mod Choosing
mod Chosen
mod Lines
pub mod Meant
pub mod Typed
