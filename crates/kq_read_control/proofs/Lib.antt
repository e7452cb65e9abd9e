pub mod PartLaws
pub mod StatementLaws
mod SymbolLemmas
pub mod ViewLaws
mod Following
