pub mod Cells
pub mod ExtentRows
pub mod FailureRows
pub mod JournalRows
pub mod ViewRows
