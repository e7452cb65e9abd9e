pub mod Lexed
pub mod Bytes
pub mod Spellings
pub mod Numbers
pub mod Delimited
pub mod Forms
pub mod Reading
pub mod Scanning
