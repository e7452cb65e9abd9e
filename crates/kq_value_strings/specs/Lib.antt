pub mod Case
pub mod Cut
pub mod Find
pub mod Found
pub mod Pieces
pub mod Suffixes
