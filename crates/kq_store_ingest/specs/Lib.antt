pub mod Ingestion
pub mod Reading
pub mod TagTexts
pub mod Tokens
