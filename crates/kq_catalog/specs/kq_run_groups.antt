-- What callers of this crate name of `kq_run_groups`.
pub use Rattle.kq_run_groups.specs.Groups
