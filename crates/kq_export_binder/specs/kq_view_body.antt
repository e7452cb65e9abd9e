-- What callers of this crate name of `kq_view_body`.
pub use Rattle.kq_view_body.specs.Exports
