-- What callers of this crate name of `kq_read_symbols`.
pub use Rattle.kq_read_symbols.specs.declared.kind.Symbol
