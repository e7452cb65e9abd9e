pub mod Bounds
pub mod ExtentLemmas
pub mod FailureLemmas
pub mod JournalLemmas
pub mod Walks
