pub mod Adding
pub mod Growing
pub mod BoundLemmas
pub mod Answered
pub mod Escapes
pub mod Judged
pub mod Strings
