pub mod Sorting
pub mod Trees
pub mod Typing
