-- What callers of this crate name of `kq_bind_supported`.
pub use Rattle.kq_bind_supported.specs.Unsupported
