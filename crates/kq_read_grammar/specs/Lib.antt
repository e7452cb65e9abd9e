pub mod Clauses
pub mod Expressions
pub mod Precedences
pub mod TabularViews
pub mod Tabulars
pub mod Trees
pub mod Views
pub mod kq_read_symbols
