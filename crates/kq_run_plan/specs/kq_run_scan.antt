-- What callers of this crate name of `kq_run_scan`.
pub use Rattle.kq_run_scan.specs.Lent
pub use Rattle.kq_run_scan.specs.Ranges
