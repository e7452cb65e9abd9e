-- What callers of this crate name of `kq_export_interface`.
pub use Rattle.kq_export_interface.specs.Due
