-- What callers of this crate name of `kq_export_ranges`.
pub use Rattle.kq_export_ranges.specs.Exported
