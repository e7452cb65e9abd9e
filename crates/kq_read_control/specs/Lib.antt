pub mod ControlReading
pub mod ControlTrees
pub mod ControlViews
pub mod Controls
pub mod Statements
pub mod Symbols
