pub mod Bags
pub mod Numbers
pub mod Props
pub mod Vectors
