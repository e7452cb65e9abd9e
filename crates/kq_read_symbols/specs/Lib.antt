pub mod Choices
pub mod Classes
pub mod Forms
pub mod Outcomes
pub mod Located
pub mod Several
pub mod Switching
pub mod Words
