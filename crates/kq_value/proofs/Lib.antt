pub mod Equals
pub mod Fields
pub mod HashExamples
pub mod SameLemmas
pub mod Steps
pub mod Totals
pub mod Trees
pub mod Types
