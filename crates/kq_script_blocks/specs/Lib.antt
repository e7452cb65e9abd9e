pub mod Item
pub mod Line
pub mod Open
pub mod Reading
pub mod Script
pub mod State
