pub mod Commands
pub mod Source
