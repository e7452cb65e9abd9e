pub mod Headline
pub mod Opening
pub mod Scripts
pub mod Together
pub mod Views
pub mod Whole
pub mod Words
