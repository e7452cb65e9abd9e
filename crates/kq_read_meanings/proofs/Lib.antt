mod White
pub mod Proper
mod Raw
mod Runs
