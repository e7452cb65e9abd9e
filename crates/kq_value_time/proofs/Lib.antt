pub mod AsciiLemmas
pub mod DateLemmas
pub mod DatetimeLemmas
pub mod PartLemmas
pub mod PrintLemmas
pub mod ReadBack
pub mod TimespanLemmas
