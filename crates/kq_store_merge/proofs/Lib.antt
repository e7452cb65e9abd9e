pub mod Front
pub mod TagLemmas
