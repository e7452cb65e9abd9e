pub mod Answers
pub mod Faults
pub mod Policies
pub mod Entries
pub mod Search
pub mod PolicyTexts
