pub mod Pieces
pub mod Types
pub mod Names
pub mod Forms
pub mod Literals
