pub mod Cells
pub mod Distinct
pub mod MvExpand
pub mod Known
pub mod Range
pub mod Union
