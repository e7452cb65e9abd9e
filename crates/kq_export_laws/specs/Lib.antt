pub mod Searches
pub mod Symbols
