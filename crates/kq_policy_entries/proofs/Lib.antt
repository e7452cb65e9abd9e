pub mod Judged
pub mod Texts
pub mod Binding
pub mod Marking
pub mod Searching
pub mod Setting
pub mod PolicyExamples
pub mod PolicyLemmas
